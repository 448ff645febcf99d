pub mod Lent
pub mod TestsLaws
