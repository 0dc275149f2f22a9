pub mod Least
pub mod Marked
pub mod Seen
pub mod Ways
pub mod Lists
pub mod Classes
pub mod Rows
pub mod Covered
