pub mod Beginning
pub mod CleanTexts
mod Examples
pub mod FirstPlace
mod Fronts
pub mod Summing
mod TextCheck
