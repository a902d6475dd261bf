pub mod PartLaws
pub mod TreeLaws
pub mod OutcomeLaws
pub mod KindLaws
pub mod VerdictLaws
pub mod Opened
