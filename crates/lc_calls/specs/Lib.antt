pub mod Built
pub mod Value
pub mod Listed
pub mod Names
pub mod Applied
pub mod Made
