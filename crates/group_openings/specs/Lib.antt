pub mod Types
pub mod Openings
