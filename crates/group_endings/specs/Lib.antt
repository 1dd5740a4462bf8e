pub mod Types
pub mod Endings
