-- responses that can be written, what an entry records of its request, pods that are alike for an
-- agent; the laws
pub mod Sent
pub mod Granted
pub mod Laws
pub mod Alike
pub mod Isolation
