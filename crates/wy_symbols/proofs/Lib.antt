mod AbstractBounds
pub mod AbstractNames
pub mod AtomsPut
mod ExamplesBounds
mod Filling
pub mod Finding
pub mod Firsts
pub mod Leasts
mod MembersOpened
pub mod NamesOfThings
pub mod Nexts
mod Repeats
pub mod Sources
pub mod Turns
mod Writing
