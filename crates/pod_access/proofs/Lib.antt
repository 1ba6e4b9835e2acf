pub mod GoverningLists
pub mod BasisLemmas
pub mod GraphGrants
pub mod Positions
pub mod Grounds
pub mod Granting
