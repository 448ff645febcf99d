pub mod Decimal
pub mod Clip
pub mod Lines
pub mod DecimalLaws
pub mod ClipLaws
pub mod LinesLaws
pub mod PieceLaws
