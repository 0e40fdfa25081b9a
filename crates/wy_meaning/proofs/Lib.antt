pub mod Answering
pub mod Bounding
pub mod Costs
pub mod Ending
pub mod Extending
pub mod Longer
mod Examples
mod ExamplesForms
mod ExamplesLines
mod ExamplesRows
mod ExamplesUsed
pub mod Programs
pub mod Rows
pub mod Taking
pub mod UsedLemmas
pub mod Widening
