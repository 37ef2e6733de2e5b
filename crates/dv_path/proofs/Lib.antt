mod Demanded
mod Issued
mod KeyLengths
pub mod OnePath
mod PolicyLists
mod Reading
mod SameOctets
mod Tabled
mod Walked
