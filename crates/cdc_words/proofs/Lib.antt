pub mod Ends
pub mod Joined
pub mod Lines
pub mod Matches
pub mod Plain
pub mod Scales
pub mod Table
