pub mod Files
pub mod Lines
pub mod Watching
pub mod Endings
pub mod CommandLines
pub mod Program
pub mod Run
