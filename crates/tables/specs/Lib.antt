pub mod Relations
pub mod Signed
pub mod Least
pub mod Sets
pub mod Tables
pub mod Names
