pub mod Work
pub mod Crew
