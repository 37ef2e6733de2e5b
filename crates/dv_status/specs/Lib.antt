pub mod Fail
pub mod Types
pub mod Views
