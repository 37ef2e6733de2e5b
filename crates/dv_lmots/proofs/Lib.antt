mod Blocks
pub mod Buffers
mod ChainSteps
mod Completed
mod Elements
mod Going
pub mod Joined
mod Messages
mod Octets
mod Values
