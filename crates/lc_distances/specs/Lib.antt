pub mod Planes
pub mod Least
pub mod Halves
