pub mod Blocks
pub mod BlockLaws
pub mod InWords
pub mod InWordsLaws
pub mod Turns
