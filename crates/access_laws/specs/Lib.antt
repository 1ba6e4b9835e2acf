-- what holds of access in every pod
pub mod Laws
