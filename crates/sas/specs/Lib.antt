pub mod Model
pub mod States
pub mod Ranks
pub mod Runs
pub mod Same
pub mod Laws
