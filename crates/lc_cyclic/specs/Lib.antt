pub mod Exponents
pub mod Fields
pub mod Generator
pub mod Powers
pub mod Shifts
