pub mod Blending
pub mod ByteCounts
pub mod LegLaws
pub mod CellLaws
pub mod GridLaws
