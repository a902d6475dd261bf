pub mod SymbolLaws
pub mod PackLaws
pub mod PartLaws
