pub mod Fit
pub mod Spots
