pub mod Printed
pub mod productions
