pub mod Parts
pub mod View
pub mod Contents
pub mod Gathered
