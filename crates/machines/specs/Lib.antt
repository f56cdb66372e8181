pub mod Names
pub mod Depth
