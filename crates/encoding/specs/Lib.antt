pub mod Value
pub mod Encoding
pub mod Held
pub mod Sound
pub mod Theory
