pub mod Planes
pub mod Packing
