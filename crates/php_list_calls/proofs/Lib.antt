pub mod Items
pub mod Steps
pub mod Wholes
pub mod Changes
pub mod Lasts
pub mod Noted
pub mod Orders
