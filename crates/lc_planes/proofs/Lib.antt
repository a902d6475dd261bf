pub mod PlaneLaws
pub mod BlockLaws
pub mod ApartLaws
pub mod PackingLaws
