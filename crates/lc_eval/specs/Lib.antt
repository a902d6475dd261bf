pub mod Machine
pub mod Checked
pub mod Evaluated
pub mod Rows
pub mod Least
