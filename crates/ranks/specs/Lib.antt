pub mod Dependency
pub mod Classed
pub mod Kinds
pub mod MadeIn
pub mod RankCheck
pub mod OrderLaws
pub mod Highest
