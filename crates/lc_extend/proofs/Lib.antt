pub mod ComplementLaws
pub mod ConstructionLaws
pub mod ExtendedLaws
pub mod RefusalLaws
pub mod RowLaws
