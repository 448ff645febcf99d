pub mod Text
pub mod Run
pub mod CheckLaws
pub mod TextLaws
pub mod RunLaws
pub mod Planned
