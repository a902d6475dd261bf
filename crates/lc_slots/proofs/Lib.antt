pub mod ReadLaws
pub mod ChoiceLaws
pub mod EmptyLaws
pub mod Opened
