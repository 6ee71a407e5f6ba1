pub mod Links
pub mod Shuffles
pub mod Entered
pub mod Walking
pub mod Settles
pub mod Deposits
pub mod Figures
pub mod Goods
