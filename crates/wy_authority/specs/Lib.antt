pub mod Authority
pub mod Ground
pub mod Report
