pub mod Walk
pub mod Verdict
pub mod Cost
pub mod Sets
pub mod Packed
pub mod Heavy
pub mod Blocks
