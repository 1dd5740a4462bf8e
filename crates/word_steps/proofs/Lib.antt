pub mod BirthLaws
pub mod PopLaws
pub mod CompleteLaws
pub mod RetryLaws
pub mod SequenceLaws
