pub mod Lines
pub mod Show
pub mod Values
