pub mod Letters
pub mod Automata
pub mod Reading
pub mod Following
pub mod Texts
