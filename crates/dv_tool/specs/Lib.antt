pub mod Certificates
pub mod Tool
