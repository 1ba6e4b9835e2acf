pub mod Same
pub mod TurtleOnce
pub mod JsonOnce
pub mod PatchOnce
pub mod UpdateOnce
pub mod Once
pub mod Fits
