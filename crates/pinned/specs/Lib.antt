pub mod Bytes
pub mod Answer
pub mod Lent
pub mod Written
pub mod Refusals
pub mod Buffers
pub mod Changes
pub mod Entries
