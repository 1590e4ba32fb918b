pub mod Expanding
pub mod SheetText
