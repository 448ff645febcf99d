pub mod Tables
pub mod Loading
pub mod Store
pub mod Room
pub mod Candidate
