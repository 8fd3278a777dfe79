pub mod Means
pub mod Rows
