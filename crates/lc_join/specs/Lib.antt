pub mod Asked
pub mod Cover
pub mod Lines
pub mod Joining
pub mod JoinSession
pub mod Meant
pub mod Seen
pub mod Truth
