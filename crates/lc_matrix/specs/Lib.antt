pub mod Rows
pub mod Elimination
pub mod Kernel
pub mod Solve
