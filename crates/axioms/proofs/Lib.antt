pub mod Grounds
pub mod Formed
mod Checking
