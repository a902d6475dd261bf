pub mod ListLaws
pub mod NameLaws
pub mod PartLaws
pub mod RowLaws
pub mod SetLaws
pub mod TextLaws
pub mod TreeTexts
pub mod Opened
