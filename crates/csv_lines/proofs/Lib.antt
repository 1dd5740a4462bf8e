pub mod Digits
pub mod Bytes
pub mod Parts
pub mod Spelling
pub mod Pieces
pub mod Decimals
pub mod Lines
