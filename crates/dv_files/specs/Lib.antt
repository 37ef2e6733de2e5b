pub mod Causes
pub mod Certificates
pub mod Keys
pub mod Seed
