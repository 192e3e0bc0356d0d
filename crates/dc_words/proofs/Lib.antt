pub mod Getters
pub mod Numerals
pub mod Parsing
pub mod Ranges
pub mod Sorting
pub mod States
pub mod Walking
pub mod WordShapes
