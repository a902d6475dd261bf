pub mod RefusalLaws
pub mod SystemLaws
pub mod FillingLaws
pub mod ErasureLaws
