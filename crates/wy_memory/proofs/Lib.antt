pub mod Finding
pub mod Naming
pub mod Putting
pub mod Rounds
