pub mod Judging
pub mod EachFile
pub mod Counts
pub mod Totals
pub mod Verdicts
pub mod OneOutcome
pub mod OneFile
