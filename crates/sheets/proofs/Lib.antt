pub mod FloorAnswers
pub mod Slots
pub mod Statements
pub mod Withdrawals
