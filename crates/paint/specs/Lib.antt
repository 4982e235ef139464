pub mod Looks
pub mod Switching
pub mod Linking
pub mod Rows
