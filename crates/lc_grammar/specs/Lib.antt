pub mod Grammar
pub mod Token
pub mod Tree
