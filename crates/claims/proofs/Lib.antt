mod Claims
mod Counts
