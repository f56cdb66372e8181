pub mod LayerWords
