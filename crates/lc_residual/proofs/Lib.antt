pub mod DimensionLaws
pub mod SupportLaws
pub mod WeightLaws
