pub mod OwnNumbers
pub mod QuestionTheorems
pub mod GroupTheorems
pub mod RoundHappens
pub mod RecordedTheorems
pub mod LibraryTheorems
pub mod Theorems
