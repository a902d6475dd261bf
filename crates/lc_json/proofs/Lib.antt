pub mod EachLaws
pub mod InsideLaws
pub mod ListTexts
