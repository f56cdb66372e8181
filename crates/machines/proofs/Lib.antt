pub mod DepthWords
pub mod NamesWords
