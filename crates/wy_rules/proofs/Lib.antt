pub mod AcceptedWithoutType
pub mod Agreeing
pub mod Alike
pub mod AlikeFails
pub mod AlikeLines
pub mod AlikeScopes
pub mod Carrying
pub mod Closed
pub mod Counted
pub mod Each
pub mod EachVals
mod ExamplesBodies
mod ExamplesBounds
mod ExamplesCalls
mod ExamplesCanonical
mod ExamplesChoices
mod ExamplesForms
mod ExamplesGround
mod ExamplesLines
mod ExamplesLogger
mod ExamplesMaker
mod ExamplesMembers
mod ExamplesOperators
mod ExamplesOrder
mod ExamplesParts
mod ExamplesPick
mod ExamplesPlug
mod ExamplesReached
mod ExamplesRefused
mod ExamplesSeals
pub mod Forms
pub mod Grounding
pub mod Holding
mod Laboratory
pub mod Lawfulness
pub mod Least
pub mod LeastTypes
pub mod Marks
pub mod Narrowing
pub mod Needs
pub mod OneEnd
pub mod OwnTypes
pub mod Outside
pub mod Passing
pub mod Reaching
pub mod Rereadings
pub mod RunReadings
pub mod SameTypes
pub mod Settling
mod Sources
pub mod Sparing
pub mod Standing
pub mod Transferring
pub mod Unrefused
pub mod WithoutType
pub mod Writing
pub mod WritingScopes
pub mod WrittenOrOwn
