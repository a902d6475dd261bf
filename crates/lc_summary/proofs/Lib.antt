pub mod RowLaws
pub mod CodeLaws
pub mod Opened
