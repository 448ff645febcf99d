pub mod RootFormula
pub mod Unsupported
