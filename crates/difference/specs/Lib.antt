pub mod ChangedLaws
pub mod Marks
pub mod PairLaws
pub mod MarkLaws
pub mod Found
