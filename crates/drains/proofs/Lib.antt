pub mod Parts
pub mod Ranks
