pub mod Contributions
pub mod Chains
pub mod Entering
pub mod Marks
pub mod Settling
pub mod Deposit
pub mod Walks
