pub mod Bounds
pub mod Counting
pub mod Results
pub mod Rising
pub mod Searching
pub mod Wides
