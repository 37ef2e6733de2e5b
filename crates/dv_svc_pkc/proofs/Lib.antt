mod Drafted
mod Entered
mod Failures
mod Fitting
mod Gained
mod Gathered
pub mod Lengths
pub mod OneDraft
mod Requested
mod Searches
