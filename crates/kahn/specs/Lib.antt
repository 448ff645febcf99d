pub mod Area
pub mod Laid
pub mod Seeding
pub mod Draining
pub mod Answer
