pub mod SyndromeLaws
pub mod SymbolLaws
pub mod LeadLaws
pub mod GrowthLaws
pub mod LevelLaws
pub mod CosetLaws
pub mod DecodingLaws
pub mod NumberLaws
