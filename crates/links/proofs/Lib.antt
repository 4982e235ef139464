pub mod Spanning
pub mod Places
pub mod Once
pub mod TableFacts
