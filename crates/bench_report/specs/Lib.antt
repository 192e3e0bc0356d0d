pub mod Edges
pub mod Reports
