pub mod FaultNames
pub mod Faults
pub mod Homes
pub mod Lines
pub mod PieceNames
pub mod Text
