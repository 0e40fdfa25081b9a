pub mod Closing
pub mod Nodes
pub mod PairSet
pub mod Rechecked
pub mod ProvedBy
pub mod Rules
pub mod Standing
pub mod Vals
