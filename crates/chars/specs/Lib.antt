pub mod Begins
pub mod Clean
pub mod Controls
pub mod Hex
pub mod Parts
pub mod Ranges
pub mod Widths
pub mod WideTableLemmas
