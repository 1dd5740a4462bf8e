pub mod CallTables
pub mod RecordedTables
pub mod LibraryTables
pub mod Demands
