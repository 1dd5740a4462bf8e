pub mod Types
pub mod Whole
