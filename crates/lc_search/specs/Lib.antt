pub mod Work
pub mod State
pub mod Levels
pub mod Found
pub mod Resuming
pub mod Course
pub mod Telling
