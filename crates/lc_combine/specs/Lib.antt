pub mod Rows
pub mod Replaced
