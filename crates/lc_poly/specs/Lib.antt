pub mod Poly
pub mod Minimal
pub mod Factors
