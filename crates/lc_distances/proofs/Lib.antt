pub mod PlaneLaws
pub mod FormulaLaws
pub mod LeastLaws
pub mod RowLaws
pub mod PartLaws
pub mod BeyondLaws
pub mod GroupLaws
