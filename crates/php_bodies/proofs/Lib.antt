pub mod Walks
pub mod Tables
pub mod Renamed
pub mod PathTables
pub mod Found
pub mod Placeholders
pub mod Looks
