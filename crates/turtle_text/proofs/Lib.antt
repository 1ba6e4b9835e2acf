pub mod Sums
pub mod Judging
pub mod Spelling
pub mod Lengths
