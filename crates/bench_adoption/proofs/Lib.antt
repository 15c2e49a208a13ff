pub mod Adopted
