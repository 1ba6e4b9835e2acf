-- whom a pod grants what, and with which bases; the value of `WAC-Allow`
pub mod PodGrants
pub mod Bases
pub mod AllowField
pub mod Modes
pub mod Grants
pub mod Decision
pub mod Needs
pub mod Allow
