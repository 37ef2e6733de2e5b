pub mod Anchors
pub mod Demands
pub mod Issuing
pub mod Members
pub mod Paths
pub mod Rows
pub mod Tables
pub mod TrustFiles
