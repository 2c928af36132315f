pub mod Surveys
pub mod Refusals
