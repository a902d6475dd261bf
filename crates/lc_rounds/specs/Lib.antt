pub mod Way
pub mod Step
pub mod Records
pub mod Paces
pub mod Going
pub mod Surroundings
