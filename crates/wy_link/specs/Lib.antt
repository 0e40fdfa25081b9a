pub mod Checking
pub mod Deciding
pub mod Lines
pub mod Linking
pub mod Tried
