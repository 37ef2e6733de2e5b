pub mod Above
pub mod Certificates
pub mod Drafts
pub mod Entries
pub mod Outcomes
pub mod Slices
pub mod Validated
