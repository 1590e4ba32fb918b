pub mod Common
pub mod LabelLists
pub mod Operands
pub mod PlaceTests
mod WorkedRows
