pub mod Sums
pub mod Signs
pub mod Joining
pub mod Composing
pub mod Closings
pub mod Likeness
mod Digits
mod Steps
mod Rows
mod Walking
mod Alone
