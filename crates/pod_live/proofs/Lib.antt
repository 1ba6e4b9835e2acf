-- internal
mod BookLemmas
mod EventLemmas
mod ReadLemmas
mod TakeLemmas
