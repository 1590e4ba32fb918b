pub mod FilledTexts
pub mod Parts
pub mod TextLines
