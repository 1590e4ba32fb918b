pub mod Drawings
pub mod HomedPieces
pub mod LineViews
pub mod ReaderViews
