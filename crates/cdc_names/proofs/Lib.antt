pub mod Lookup
pub mod Nexts
pub mod Firsts
pub mod Added
pub mod Bodies
pub mod Others
pub mod Least
