pub mod IriPaths
pub mod NodeRules
pub mod NodeValues
pub mod Choices
