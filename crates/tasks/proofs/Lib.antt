pub mod Collecting
pub mod Operators
pub mod Meanings
