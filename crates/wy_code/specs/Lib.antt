pub mod Laws
pub mod Machine
pub mod Marks
pub mod Named
pub mod EachOnce
pub mod Operations
pub mod Running
pub mod Stores
