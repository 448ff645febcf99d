pub mod Tables
pub mod Example
pub mod Standing
