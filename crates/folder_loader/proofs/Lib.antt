mod Outcomes
pub mod OneOutcome
