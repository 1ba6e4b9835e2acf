-- which entries a store gained while it was served, and of which items
pub mod EachOnce
pub mod DesksOnce
-- what a crash leaves at each moment of a run
pub mod RunMoments
-- a run as one run of a world
pub mod Replied
pub mod WholeWorld
