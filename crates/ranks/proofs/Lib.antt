pub mod Edges
pub mod Accepted
pub mod Ranks
pub mod Planned
