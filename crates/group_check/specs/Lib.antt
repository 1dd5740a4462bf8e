pub mod Types
pub mod WellFormed
pub mod Ids
pub mod Count
