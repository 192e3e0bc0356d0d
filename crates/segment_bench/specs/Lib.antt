pub mod NewBench
pub mod BenchRun
