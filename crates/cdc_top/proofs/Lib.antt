pub mod Ends
pub mod Laws
pub mod Begun
pub mod Said
pub mod Played
pub mod Seqs
pub mod One
pub mod Complete
