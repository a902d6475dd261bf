pub mod Part
pub mod Seen
pub mod Along
pub mod Cover
pub mod Levels
pub mod Joined
