pub mod CyclesFound
mod Cycling
mod EdgesOnce
mod ExamplesCycles
pub mod Fronts
mod LaterOwners
mod MarksPut
pub mod Mosts
mod Owned
mod Params
mod Places
mod Searching
