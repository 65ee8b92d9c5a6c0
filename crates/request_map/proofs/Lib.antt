pub mod Lengths
pub mod Fronts
pub mod Answering
pub mod Scanning
pub mod Links
pub mod ReadAnswers
