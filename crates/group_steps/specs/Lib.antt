pub mod Births
pub mod Sequences
pub mod Attempts
