pub mod Reading
pub mod RoundTrips
pub mod Spelling
pub mod Writing
