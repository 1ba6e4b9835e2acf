pub mod Texts
pub mod Prefix
pub mod FrameLemmas
