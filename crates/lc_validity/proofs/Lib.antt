pub mod DependentLaws
pub mod ValidityLaws
pub mod StartLaws
