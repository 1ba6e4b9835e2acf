mod ArrivalLemmas
mod ConnLemmas
mod DeskLemmas
mod LinkLemmas
mod PieceLemmas
mod PoddLemmas
mod StoreAnswerLemmas
mod SentLemmas
mod WorldRunLemmas
mod WorldStepLemmas
pub mod NoticeLemmas
