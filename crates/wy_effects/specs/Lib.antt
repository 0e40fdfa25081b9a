pub mod AtomTable
pub mod Bounds
pub mod EffSet
pub mod Order
pub mod Rows
pub mod Widened
