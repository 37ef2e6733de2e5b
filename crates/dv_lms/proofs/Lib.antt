mod Ancestors
mod Heights
mod Parts
mod Paths
mod Rows
mod Signing
