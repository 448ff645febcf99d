pub mod Planned
pub mod Admitted
pub mod Series
pub mod Ranks
