pub mod Refusals
pub mod Ranked
pub mod Sets
