pub mod View
pub mod Parts
pub mod Told
