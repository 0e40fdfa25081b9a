pub mod Gains
pub mod Lists
