pub mod Layout
pub mod Refusals
pub mod Safe
pub mod Steps
pub mod SigningKey
pub mod State
pub mod Opening
pub mod Lives
