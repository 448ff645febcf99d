pub mod AnyWords
pub mod ListedReads
pub mod ListedWalk
pub mod ListedFresh
pub mod Listed
pub mod ListedSeries
