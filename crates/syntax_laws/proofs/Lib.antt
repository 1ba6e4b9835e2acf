mod Chars
mod Pieces
mod Terms
mod Graphs
mod Meanings
mod Trees
mod Productions
mod Spelled
mod Cuts
mod Limits
pub mod Lowered
pub mod Generated
mod ReadTerms
mod Numbered
mod Kept
mod JsonldGraphs
