pub mod Written
pub mod Short
pub mod Moments
pub mod Counting
pub mod Looking
