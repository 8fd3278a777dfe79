pub mod Content
pub mod Reading
pub mod Spelling
pub mod Faults
