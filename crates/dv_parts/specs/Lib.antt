pub mod Answered
pub mod Drafts
pub mod Moments
