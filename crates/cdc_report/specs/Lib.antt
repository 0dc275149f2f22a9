pub mod Accepted
pub mod Listing
pub mod End
pub mod MarkLines
