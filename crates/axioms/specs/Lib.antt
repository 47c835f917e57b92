pub mod Kinds
pub mod Causes
pub mod Ordered
pub mod Limits
pub mod Axioms
pub mod Steps
pub mod Raw
pub mod Trusts
