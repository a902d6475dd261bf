pub mod Opened
pub mod PartLaws
