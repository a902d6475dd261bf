pub mod TableLaws
pub mod NameLaws
pub mod ListLaws
pub mod KindLaws
pub mod MisfitLaws
pub mod Opened
