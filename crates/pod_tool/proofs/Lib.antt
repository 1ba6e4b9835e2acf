pub mod FreshLemmas
pub mod LoadLemmas
pub mod EndLemmas
