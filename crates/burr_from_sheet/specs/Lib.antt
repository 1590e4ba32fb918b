pub mod Drafts
pub mod SheetPlans
