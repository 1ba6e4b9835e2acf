pub mod ProgressLemmas
pub mod KeyLemmas
pub mod TextLemmas
pub mod LinkLemmas
