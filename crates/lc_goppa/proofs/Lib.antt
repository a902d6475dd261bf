pub mod PointLaws
pub mod RefusalLaws
pub mod GoppaLaws
pub mod GoppaRefusals
pub mod FormLaws
