pub mod Krawtchouk
pub mod Orthogonal
pub mod Refused
pub mod Solving
