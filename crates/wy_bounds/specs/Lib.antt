pub mod Gathering
pub mod Matrix
pub mod Safety
pub mod Table
pub mod Worklist
