pub mod Near
pub mod Led
pub mod Phase
pub mod Answer
