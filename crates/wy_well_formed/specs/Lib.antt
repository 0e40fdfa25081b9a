pub mod WellFormed
pub mod ValPlaces
