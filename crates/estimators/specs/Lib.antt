pub mod Heights
pub mod Laws
pub mod Blind
pub mod Layers
pub mod Soundness
pub mod Bounds
