pub mod Cursor
pub mod Lent
pub mod CursorLaws
pub mod Laying
pub mod LayingLaws
