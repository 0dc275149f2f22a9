pub mod Reached
pub mod Seen
pub mod Sketches
pub mod Verdicts
pub mod Conflicts
pub mod Searches
