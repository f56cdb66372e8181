pub mod Fields
pub mod Faults
pub mod Outcomes
pub mod Parts
pub mod Texts
