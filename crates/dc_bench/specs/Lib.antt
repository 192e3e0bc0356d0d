pub mod BenchState
