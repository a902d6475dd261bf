pub mod Views
pub mod Refusal
pub mod Reading
pub mod Spans
