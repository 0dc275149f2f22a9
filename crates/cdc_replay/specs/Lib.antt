pub mod Refused
pub mod Effects
pub mod Applied
pub mod Replays
pub mod Ample
pub mod Direct
