pub mod Grown
pub mod SequenceLaws
