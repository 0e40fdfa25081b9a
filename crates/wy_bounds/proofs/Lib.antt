pub mod Lacks
pub mod Meeting
pub mod Sides
pub mod Unions
pub mod Working
