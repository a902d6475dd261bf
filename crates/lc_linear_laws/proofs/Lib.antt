pub mod LinearLaws
pub mod PartLaws
pub mod PowerSpan
