pub mod Atoms
pub mod Declarations
pub mod Found
pub mod Least
pub mod Lent
pub mod Meanings
pub mod Things
pub mod TypeUses
