pub mod Closure
mod ExamplesBounds
pub mod Listing
pub mod Numbers
pub mod Ordering
pub mod Places
pub mod Replacing
pub mod RowLaws
pub mod SetLaws
pub mod Walks
pub mod Widening
