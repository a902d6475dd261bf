pub mod Checks
pub mod Key
pub mod Chosen
