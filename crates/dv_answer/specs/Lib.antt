pub mod Messages
pub mod Steps
pub mod Offices
pub mod Failures
pub mod Signed
pub mod Checks
pub mod Replies
