mod LineLaws
pub mod TextLaws
mod ComeLaws
mod ScriptLaws
pub mod SessionLaws
pub mod ReplyLaws
