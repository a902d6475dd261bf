pub mod RefusalLaws
pub mod FamilyLaws
pub mod ColumnLaws
pub mod HammingLaws
pub mod ProductLaws
pub mod TrivialLaws
pub mod HammingDimension
pub mod ReedMullerDimension
