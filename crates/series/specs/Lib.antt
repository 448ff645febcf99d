pub mod Lent
pub mod Ranks
