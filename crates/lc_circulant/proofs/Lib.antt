pub mod PartLaws
pub mod RefusalLaws
pub mod RowLaws
pub mod ShiftLaws
