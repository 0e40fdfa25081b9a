pub mod Folders
pub mod Numerals
pub mod Settings
