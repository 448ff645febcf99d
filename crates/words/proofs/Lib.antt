pub mod Rest
pub mod Blocks
pub mod Words
