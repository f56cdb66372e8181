pub mod Checking
pub mod Reading
pub mod Records
pub mod Writing
pub mod Texts
