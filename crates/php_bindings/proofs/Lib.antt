pub mod Alike
pub mod Binding
pub mod Taking
