pub mod Words
pub mod Signs
pub mod Names
pub mod Keys
pub mod Lexemes
pub mod Opens
