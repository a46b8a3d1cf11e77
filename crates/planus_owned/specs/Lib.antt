pub mod Made
pub mod Printed
pub mod Records
pub mod Shown
pub mod Texts
