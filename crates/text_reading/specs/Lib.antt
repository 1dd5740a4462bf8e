pub mod Types
pub mod Form
pub mod Reading
pub mod Stored
