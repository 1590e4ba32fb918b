pub mod HomeCells
pub mod HomeSizes
pub mod OneHomes
pub mod TextLaws
