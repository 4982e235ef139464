pub mod Number
pub mod Moves
pub mod Joins
pub mod Strings
pub mod Words
pub mod Lines
pub mod Script
pub mod Printed
