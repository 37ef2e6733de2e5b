pub mod Uses
pub mod Commands
pub mod Grammar
pub mod Number
