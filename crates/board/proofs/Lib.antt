pub mod Histories
pub mod Lines
