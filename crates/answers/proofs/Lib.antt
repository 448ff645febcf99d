pub mod Bounded
pub mod CheckFits
pub mod PlanFits
pub mod Examples
