pub mod Calendar
pub mod Text
pub mod Types
pub mod Views
