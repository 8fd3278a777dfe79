pub mod Problem
pub mod Search
pub mod Trace
pub mod Table
pub mod Theorems
