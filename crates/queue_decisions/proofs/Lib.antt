pub mod BirthLaws
pub mod SequenceLaws
pub mod PopLaws
pub mod AnswerLaws
pub mod RenewalLaws
