-- a history of a pod, the requests of one connection with their answers at places of it, and the
-- bytes of these
pub mod History
pub mod Session
pub mod Output
pub mod Answers
pub mod Laws
-- connections and one keeper, event by event
pub mod KeeperSteps
pub mod WorldImages
pub mod World
