pub mod Counted
pub mod Certified
pub mod Nearest
pub mod Printed
pub mod Shapes
