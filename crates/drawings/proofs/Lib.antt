pub mod Plans
pub mod Cases
pub mod Stable
