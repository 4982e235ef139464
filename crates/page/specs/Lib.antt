pub mod Refusals
pub mod Elements
pub mod Hands
pub mod Desks
pub mod Opening
pub mod Reads
