pub mod MotionLines
pub mod SheetUnderWay
pub mod SheetView
