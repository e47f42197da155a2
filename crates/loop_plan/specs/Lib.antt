pub mod Fallen
pub mod Leads
pub mod Reached
pub mod Reaching
pub mod Uses
pub mod Waiting
