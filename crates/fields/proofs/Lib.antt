pub mod Counters
pub mod CounterTests
pub mod Laws
mod Examples
