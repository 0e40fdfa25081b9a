pub mod Certified
pub mod Steps
pub mod OneReading
pub mod Reading
pub mod Proving
pub mod Unproved
pub mod Written
pub mod WrittenLaws
