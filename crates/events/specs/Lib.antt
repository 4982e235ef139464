pub mod Kinds
pub mod Parts
pub mod Nesting
pub mod Lists
