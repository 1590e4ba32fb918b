pub mod Answers
pub mod Headline
pub mod Input
pub mod Output
pub mod Refusals
pub mod Verdicts
