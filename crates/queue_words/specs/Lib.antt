pub mod Layout
pub mod Words
pub mod Exported
pub mod InPlace
