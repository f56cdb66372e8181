pub mod Fronts
pub mod Here
pub mod Orders
pub mod Telling
pub mod Total
pub mod Unique
