pub mod Causes
pub mod Source
pub mod Shelf
pub mod Clock
pub mod Station
pub mod Releases
