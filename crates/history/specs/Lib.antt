pub mod Histories
pub mod Fits
pub mod Benches
pub mod ListedHistories
