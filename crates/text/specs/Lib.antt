pub mod Keywords
pub mod Names
pub mod Orders
