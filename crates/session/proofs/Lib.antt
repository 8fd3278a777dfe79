pub mod Agree
pub mod Back
pub mod Ending
pub mod Following
