pub mod Possession
