pub mod GoingOn
pub mod Printing
pub mod Chains
