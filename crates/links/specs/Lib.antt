pub mod Addresses
pub mod Spans
pub mod Tables
