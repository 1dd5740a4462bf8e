pub mod Promises
pub mod Runs
pub mod Sequences
pub mod Answers
pub mod Orders
