pub mod Sections
pub mod Steps
pub mod Laying
pub mod Kept
pub mod Start
pub mod Walk
pub mod Queue
pub mod Left
