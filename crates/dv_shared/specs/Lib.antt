pub mod Events
pub mod Receipts
pub mod Stands
pub mod Calls
