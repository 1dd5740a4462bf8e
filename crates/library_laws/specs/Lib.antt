pub mod CallWords
pub mod Tickets
pub mod Values
pub mod Sessions
pub mod Results
