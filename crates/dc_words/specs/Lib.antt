pub mod CommandLine
pub mod CommandOfWords
pub mod WordKinds
