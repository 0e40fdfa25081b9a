mod Rows
mod Examples
mod PrimitiveTypes
pub mod Authorities
pub mod Below
pub mod Calls
pub mod Chain
pub mod Composing
pub mod Determined
pub mod Files
pub mod Frames
pub mod Granting
pub mod Heaps
pub mod Lists
pub mod Making
pub mod Named
pub mod Operating
pub mod Passed
pub mod Results
pub mod Segments
pub mod Sharper
pub mod Starting
pub mod Steps
pub mod Tables
pub mod Verdicts
pub mod Visited
pub mod Walked
pub mod Whole
