pub mod Walk
pub mod Onward
