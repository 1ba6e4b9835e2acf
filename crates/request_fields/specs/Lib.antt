-- the type of a body
pub mod MediaTypes
pub mod ContentTypes
-- links to the types of containers
pub mod LinkValues
pub mod LinkParameters
pub mod RelationTypes
pub mod Links
-- upgrades, and Slug, Range and If-Range
pub mod Upgrades
pub mod PartFields
-- internal: cited by private clauses alone
pub mod Progress
