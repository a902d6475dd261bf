pub mod Bound
pub mod Kept
pub mod Choice
