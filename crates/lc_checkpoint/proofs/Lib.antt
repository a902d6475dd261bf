pub mod PointLaws
pub mod SealLaws
pub mod SettledLaws
pub mod TextLaws
pub mod Opened
