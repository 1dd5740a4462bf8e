pub mod Types
pub mod Questions
