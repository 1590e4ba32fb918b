pub mod Listings
pub mod Parts
pub mod Symbols
