-- media types, the parameters of a range and its quality
pub mod MediaTypes
pub mod Qualities
pub mod Parameters
-- the ranges of an Accept field, and the choice between two offers
pub mod MediaRanges
pub mod Choices
-- internal: cited by private clauses alone
pub mod Views
pub mod Tallies
