pub mod Types
pub mod Slots
pub mod Births
pub mod Sequences
pub mod Pops
pub mod Answers
pub mod Renewals
