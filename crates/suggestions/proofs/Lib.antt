pub mod Advised
pub mod Crossed
