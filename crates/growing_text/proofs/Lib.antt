pub mod Overlaps
pub mod Parts
pub mod Fronts
pub mod Gaps
pub mod Rows
