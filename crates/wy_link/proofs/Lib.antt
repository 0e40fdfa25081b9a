pub mod Bounds
mod ExamplesLocals
mod FirstNames
pub mod LineNodes
pub mod LinesDecided
pub mod Premises
pub mod Programs
pub mod Ranges
pub mod ReachListed
pub mod Rooms
pub mod Visits
