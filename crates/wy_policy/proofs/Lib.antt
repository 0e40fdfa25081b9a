pub mod Cuts
pub mod Entries
mod Examples
mod ExamplesUsed
pub mod Grants
pub mod JudgingLaws
pub mod LineTurns
pub mod NameBytes
pub mod PolicyLaws
pub mod RowLaws
pub mod SetLaws
pub mod UsedLines
