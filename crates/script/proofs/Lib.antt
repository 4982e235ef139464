pub mod Spelling
pub mod Repeats
pub mod Steps
pub mod Named
pub mod Prints
pub mod Back
