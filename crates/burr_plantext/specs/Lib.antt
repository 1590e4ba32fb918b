pub mod Laws
pub mod Rules
pub mod Views
