pub mod Adopts
