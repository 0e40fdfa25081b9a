pub mod Continuing
mod Examples
pub mod Spending
