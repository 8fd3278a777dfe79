pub mod Bounded
pub mod Sounded
