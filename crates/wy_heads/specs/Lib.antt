pub mod Counts
pub mod CycleRefusals
pub mod Cycles
pub mod Fronts
pub mod Leading
pub mod Lines
pub mod Most
pub mod ScopeHeads
