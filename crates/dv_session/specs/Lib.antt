pub mod Requests
pub mod Headers
pub mod Progress
pub mod Feeding
pub mod Splitting
pub mod Issuing
pub mod Sending
pub mod Serving
