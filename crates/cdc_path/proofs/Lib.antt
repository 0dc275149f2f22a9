pub mod Uncalled
pub mod OneMarks
pub mod Denoted
