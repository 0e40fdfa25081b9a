pub mod Classes
pub mod Numbers
pub mod Rows
pub mod Runs
pub mod Words
