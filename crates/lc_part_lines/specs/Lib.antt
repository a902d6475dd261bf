pub mod Line
pub mod Pieces
pub mod Seen
