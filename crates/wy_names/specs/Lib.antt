pub mod Judged
pub mod Laws
pub mod Names
pub mod ScopeParts
pub mod Scopes
