mod ExamplesCallbacks
mod ExamplesFiles
mod ExamplesModules
pub mod Reports
mod Sources
