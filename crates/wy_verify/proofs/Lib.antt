pub mod ArgumentsFit
pub mod Backwards
pub mod Brought
pub mod CalledMethods
pub mod Captured
pub mod CodingLists
mod Covering
mod EffectSets
mod Finding
pub mod Fitting
pub mod Flows
pub mod Jumping
mod Keys
mod LookingUp
mod Noting
mod Numbered
mod Numbering
pub mod Operands
mod Owning
pub mod RangeJoins
pub mod RangeLists
pub mod RangeNames
pub mod RangeNeeds
pub mod RangeRoles
pub mod RangeTests
pub mod RangeWhole
pub mod RangeWords
pub mod Reading
pub mod Reported
mod Siting
mod Small
pub mod SourcesRead
mod Standing
pub mod Turning
pub mod Verdicts
pub mod Visits
mod Walks
