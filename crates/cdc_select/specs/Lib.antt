pub mod ChangeBits
pub mod ChangeBitsLaws
