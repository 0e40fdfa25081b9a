pub mod Names
pub mod Operators
pub mod Outside
pub mod Sets
pub mod Tried
