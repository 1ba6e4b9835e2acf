pub mod PatternLemmas
pub mod RuleLemmas
pub mod VariableLemmas
pub mod Meant
pub mod OneAnswer
