pub mod AnswerLaws
pub mod ClaimLaws
pub mod ShapeLaws
pub mod LineLaws
pub mod NewlineLaws
pub mod ValidLaws
pub mod AcceptedLaws
pub mod Opened
