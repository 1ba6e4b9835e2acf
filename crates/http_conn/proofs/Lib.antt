-- kept for the crates above
pub mod EndLemmas
pub mod LongerTexts
pub mod StepLemmas
-- internal
pub mod Parses
pub mod RefusalLemmas
pub mod SingleRequestLemmas
pub mod SomeParse
