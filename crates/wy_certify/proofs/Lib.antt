pub mod Adding
pub mod Arising
pub mod Blocks
pub mod Bodies
pub mod Certificates
mod ExamplesClosed
mod ExamplesNumbers
pub mod Gathering
pub mod ListsWhole
pub mod Numbers
pub mod PairsGrowing
pub mod PairsHolding
pub mod PairsListed
pub mod PairsMet
pub mod Parts
pub mod PartsPushed
pub mod RulesAsked
pub mod ScopesProved
pub mod Settled
pub mod Sizes
pub mod StepParts
pub mod Turns
