pub mod Lists
pub mod Patterned
pub mod Told
pub mod Lasts
pub mod Counted
