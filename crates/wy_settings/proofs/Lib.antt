mod Digits
mod Examples
mod Given
