pub mod ArmedUnits
pub mod ToldStart
pub mod RunEdges
pub mod InWindow
