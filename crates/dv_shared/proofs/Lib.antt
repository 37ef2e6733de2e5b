pub mod Growth
pub mod Sent
pub mod Standing
pub mod Answering
pub mod Sending
