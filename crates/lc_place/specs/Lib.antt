pub mod Place
pub mod Tables
pub mod Order
