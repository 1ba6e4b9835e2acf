-- what holds of a world after any list of events, and what a crash leaves of it
pub mod OneHistory
pub mod CrashedWorlds
