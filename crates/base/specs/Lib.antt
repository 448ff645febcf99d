pub mod Tests
pub mod Places
pub mod Raised
pub mod Rising
pub mod Each
pub mod Front
pub mod Gather
