pub mod Checks
pub mod Growth
pub mod Leading
pub mod Refusal
pub mod Syndrome
