pub mod Lmots
pub mod Walk
