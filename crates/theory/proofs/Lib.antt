pub mod Steps
pub mod Admitted
pub mod Meaning
pub mod Empty
