-- which methods a path takes, the links of a resource, the responses
pub mod Allow
pub mod Links
pub mod Responses
