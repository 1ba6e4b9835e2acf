-- what a patch, and an update, do to a row's graph; laws of both
pub mod Outcomes
pub mod Updates
pub mod Laws
