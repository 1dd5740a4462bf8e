pub mod Question
pub mod Questions
pub mod Scan
