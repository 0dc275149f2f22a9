pub mod Plain
pub mod Forms
pub mod Units
pub mod Options
pub mod Order
