pub mod Course
pub mod FaultLaws
pub mod FirstFault
pub mod GrammarExamples
pub mod GrammarLaws
pub mod ScriptLaws
