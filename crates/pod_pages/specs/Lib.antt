pub mod Effects
pub mod State
-- internal: cited by private clauses alone
pub mod Marks
pub mod Lists
pub mod Edited
pub mod FirstChild
pub mod Numbering
pub mod Placings
pub mod Versions
