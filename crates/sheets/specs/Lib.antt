pub mod Masks
pub mod Moves
pub mod Steps
pub mod Loops
pub mod Runs
pub mod Sheets
pub mod Following
