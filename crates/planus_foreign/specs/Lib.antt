pub mod Calls
pub mod Inside
pub mod Places
pub mod Statuses
pub mod Verifies
