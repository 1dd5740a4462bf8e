pub mod Pasting
pub mod KitDigits
pub mod Fields
pub mod Reported
pub mod Answered
pub mod OneAnswer
pub mod Responses
