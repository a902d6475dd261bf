pub mod CoverLaws
pub mod FactsLaws
pub mod AlongLaws
pub mod PhaseLaws
pub mod BoundLaws
pub mod JoinLaws
pub mod PartExamples
