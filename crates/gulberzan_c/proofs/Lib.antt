pub mod BackWords
pub mod Calls
pub mod Ended
pub mod ToldLaws
pub mod SequenceLaws
