mod Containment
pub mod OneOutcome
