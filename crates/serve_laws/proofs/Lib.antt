-- internal
mod Counting
mod EachOnceLemmas
mod DesksOnceLemmas
mod Schedule
mod TrackLemmas
mod WholeWorldLemmas
