pub mod Kept
pub mod Coordinates
pub mod Rows
