pub mod Checked
pub mod Form
