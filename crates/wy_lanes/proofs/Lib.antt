pub mod Bits
pub mod Blocks
mod Examples
pub mod Fronts
pub mod Masks
pub mod NumberLaws
pub mod NumbersOf
pub mod RowLemmas
