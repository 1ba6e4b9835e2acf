pub mod FeedLemmas
mod TurnLemmas
mod EachChangeLemmas
