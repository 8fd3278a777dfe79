pub mod AtRank
pub mod Each
pub mod Numbered
pub mod Sets
pub mod Sums
