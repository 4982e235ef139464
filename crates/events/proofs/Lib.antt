pub mod Numbered
pub mod Links
