pub mod Openings
pub mod Progress
pub mod RowsReadLaws
pub mod RowsStand
pub mod Said
pub mod Texts
