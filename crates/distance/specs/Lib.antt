pub mod Apart
pub mod Layers
