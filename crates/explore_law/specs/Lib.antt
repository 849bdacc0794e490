pub mod Instances
pub mod Orders
pub mod Explored
pub mod Ways
pub mod Graphs
pub mod Finding
