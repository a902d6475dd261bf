pub mod Filling
pub mod System
