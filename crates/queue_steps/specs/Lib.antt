pub mod Types
pub mod Attempts
