pub mod Judging
pub mod Formed
pub mod Sound
pub mod Walks
pub mod Parsed
pub mod Holding
