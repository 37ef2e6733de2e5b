pub mod Certificates
pub mod Growing
pub mod Messages
pub mod Notice
pub mod Notices
pub mod Rooms
pub mod Sealed
pub mod Slices
