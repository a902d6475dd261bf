pub mod Text
pub mod Worlds
