pub mod Allowed
pub mod Judging
pub mod Laws
pub mod Policy
pub mod Reading
pub mod Used
