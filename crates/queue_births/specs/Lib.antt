pub mod Types
pub mod Births
pub mod Sequences
