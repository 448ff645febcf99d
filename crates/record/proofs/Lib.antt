pub mod Laws
pub mod Stages
pub mod Steps
pub mod Judging
pub mod Refused
