pub mod Views
pub mod Laws
pub mod Output
pub mod Fits
pub mod Linked
