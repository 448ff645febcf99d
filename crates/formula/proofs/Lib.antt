pub mod Cases
pub mod Empty
pub mod Laws
pub mod Fages
pub mod Producers
pub mod Removable
pub mod Decide
pub mod Examples
