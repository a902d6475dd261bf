pub mod Pieces
pub mod TreePieces
pub mod Reading
pub mod Seen
pub mod Trees
