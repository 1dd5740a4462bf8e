pub mod Answers
pub mod Promises
pub mod Parts
pub mod Runs
pub mod Marked
pub mod Orders
pub mod WholeLists
pub mod SoundQueues
