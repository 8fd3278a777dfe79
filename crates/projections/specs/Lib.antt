pub mod Projection
pub mod Shapes
pub mod Origins
pub mod Laws
pub mod Asked
pub mod Parts
pub mod View
