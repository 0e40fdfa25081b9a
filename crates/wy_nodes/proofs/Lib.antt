mod Sums
mod Turns
