pub mod TrueTime
pub mod History
pub mod HistoryLaw
