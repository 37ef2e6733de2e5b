pub mod Parts
pub mod ResponseView
pub mod Types
pub mod Views
