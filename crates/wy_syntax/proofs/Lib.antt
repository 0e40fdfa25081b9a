mod Gathered
pub mod Layers
mod Numbers
pub mod TokensSpelled
