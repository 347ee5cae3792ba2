pub mod Scale
