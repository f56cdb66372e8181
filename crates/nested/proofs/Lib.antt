pub mod Counts
pub mod Matching
pub mod Simulations
pub mod Words
