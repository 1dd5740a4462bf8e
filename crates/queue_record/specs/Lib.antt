pub mod Types
pub mod Refusals
pub mod Record
pub mod WellFormed
pub mod Waiting
pub mod Newest
pub mod Openings
pub mod Blank
