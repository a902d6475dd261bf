pub mod Checked
pub mod Column
pub mod Product
