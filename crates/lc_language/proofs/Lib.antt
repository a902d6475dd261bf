pub mod ConstructionExamples
pub mod LanguageExamples
pub mod LineExamples
pub mod QueryExamples
pub mod TextExamples
pub mod RelationExamples
pub mod SubfieldExamples
pub mod RefusalLaws
