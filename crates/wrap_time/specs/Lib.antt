pub mod WordDifference
pub mod WordLess
pub mod NearNumbers
pub mod Extended
