pub mod Outcomes
pub mod Named
pub mod Pairs
pub mod Tails
pub mod Views
pub mod Rest
pub mod Laws
