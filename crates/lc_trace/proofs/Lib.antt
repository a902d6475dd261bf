pub mod RefusalLaws
pub mod TraceTests
pub mod TraceLaws
pub mod SpanLaws
pub mod RowLaws
