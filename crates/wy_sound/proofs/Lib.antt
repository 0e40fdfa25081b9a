pub mod Allowing
pub mod Applying
pub mod BaseTypes
pub mod Below
pub mod Calling
pub mod Effects
pub mod Evaluating
mod Examples
mod ExamplesGroundReached
pub mod GroundCanonical
pub mod GroundLists
pub mod GroundRange
mod GroundReached
pub mod Heaps
mod LineNames
pub mod Linked
mod LinkingAdded
mod LinkingApart
mod LinkingAtoms
mod LinkingBounds
mod LinkingEnds
mod LinkingExamples
mod LinkingGrants
pub mod LinkingLaws
mod LinkingLines
mod LinkingLists
mod LinkingMain
mod LinkingNames
mod LinkingPrograms
mod LinkingReads
mod LinkingRules
mod LinkingScopes
mod LinkingSets
mod LinkingStates
mod LinkingTables
mod LinkingVisits
mod LinkingWays
pub mod Lists
pub mod Methods
pub mod Names
pub mod Operating
pub mod Operations
pub mod Performing
pub mod Placing
mod ReachedSeen
pub mod ReportRows
pub mod Results
pub mod Running
pub mod Silence
pub mod Starting
mod TellingExamples
mod UsedAllowed
