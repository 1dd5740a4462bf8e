pub mod Types
pub mod Stages
