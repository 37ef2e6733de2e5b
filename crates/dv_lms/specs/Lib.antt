pub mod Height
pub mod Identity
pub mod Tree
pub mod Signed
pub mod Verifies
