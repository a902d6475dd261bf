pub mod ListTexts
pub mod Opened
