pub mod AcceptedCertified
pub mod BareStand
pub mod CertifiedNodes
mod ClosedPairs
mod ClosedTypes
mod EffectsKept
pub mod Erasing
pub mod ExactLists
mod Examples
mod ExamplesForms
mod ExamplesLogger
mod ExamplesPlain
pub mod FirstFailures
mod LinesAsked
mod Listed
mod ListedClosed
mod LocalsCounted
mod MethodEffects
mod NodeSteps
pub mod NodesRead
mod OperatorRows
pub mod PlainPairs
mod ProvedAccepted
mod ReachedStand
mod ReadNodes
mod ReadParts
mod ScopesRead
mod StandingDecided
mod StandingKept
mod StepsGood
mod StepsListed
mod Tests
pub mod WrittenOut
mod WrittenTypes
