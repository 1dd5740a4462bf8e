pub mod Recorded
pub mod Told
pub mod ReadBack
