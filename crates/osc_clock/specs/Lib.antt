pub mod Ticks
pub mod IntervalTicks
pub mod InsideOsc
pub mod Standing
pub mod InsideTicker
