mod ExamplesBounds
mod ExamplesPrograms
mod ExamplesRefusals
mod Judging
pub mod MarksLeft
pub mod OneAnswer
mod ScopesMade
