pub mod Refusals
pub mod Runs
pub mod Answers
pub mod Serving
