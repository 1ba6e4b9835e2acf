-- what a request is about; what is refused by its target, its agent and its method alone
pub mod Targets
pub mod Admission
