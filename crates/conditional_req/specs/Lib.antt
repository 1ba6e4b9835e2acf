-- the tag of a representation, and the tags of a field
pub mod Tags
pub mod EntityTags
pub mod TagLists
-- the precondition fields of a request, and the verdict on them
pub mod Conditions
pub mod Verdicts
-- internal: cited by private clauses alone
pub mod Views
