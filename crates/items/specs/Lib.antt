pub mod Items
pub mod Words
pub mod Makings
pub mod Endings
pub mod Writing
pub mod Texts
