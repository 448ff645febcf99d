pub mod Unplannable
pub mod Candidates
pub mod Lines
pub mod Told
pub mod WordTells
pub mod Demand1
pub mod Demand2
pub mod Demand3
