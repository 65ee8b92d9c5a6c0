pub mod Journal
pub mod JournalKeeper
pub mod Keeper
pub mod RowText
pub mod Texts
