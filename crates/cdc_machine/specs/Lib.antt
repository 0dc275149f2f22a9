pub mod Machine
pub mod History
pub mod Doing
pub mod Standing
pub mod Code
pub mod Laws
