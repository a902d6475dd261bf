pub mod Asked
pub mod Found
pub mod PartSession
pub mod Printed
pub mod Seen
