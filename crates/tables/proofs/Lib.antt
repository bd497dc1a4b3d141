pub mod Found
mod Maps
