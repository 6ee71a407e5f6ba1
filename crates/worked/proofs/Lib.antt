-- Contributions in another order.
pub mod Orders
