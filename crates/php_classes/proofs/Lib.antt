pub mod Lineages
pub mod Firsts
pub mod Behind
pub mod Kept
pub mod Declared
pub mod Places
