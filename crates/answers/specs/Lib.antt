pub mod Word
pub mod Fits
pub mod Unpacked
pub mod WordLaws
pub mod PackLaws
