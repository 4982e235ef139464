pub mod Marking
pub mod Folds
pub mod Keeping
