pub mod Made
pub mod Same
