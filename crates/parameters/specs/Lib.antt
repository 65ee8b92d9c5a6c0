pub mod Names
pub mod Nested
pub mod Parameters
pub mod Cookies
