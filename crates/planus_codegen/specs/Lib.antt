pub mod Known
pub mod Printed
