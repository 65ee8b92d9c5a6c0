pub mod Datas
pub mod Digits
pub mod Fitting
pub mod Walking
pub mod Around
pub mod Meetings
