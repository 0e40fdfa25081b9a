pub mod Certificates
mod Examples
pub mod RuleFronts
pub mod TypeFronts
pub mod Written
