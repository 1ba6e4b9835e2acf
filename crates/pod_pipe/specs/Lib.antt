-- What public clauses cite: what a holder of a pod is, which sessions are served, and how a
-- connection ends.
pub mod Holders
pub mod Memory
pub mod Served
pub mod Streams
pub mod Statuses
-- What public clauses cite: the streams, the disks and the token table of a run, which counts
-- increased, the pod of a store, and what a run does.
pub mod RunStreams
pub mod DiskRuns
pub mod Tables
pub mod CountedFaults
pub mod StoredPods
pub mod StoreRuns
-- internal: cited by private clauses alone
pub mod Held
