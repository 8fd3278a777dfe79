pub mod Text
pub mod Cursor
pub mod Within
pub mod Fields
pub mod Lines
