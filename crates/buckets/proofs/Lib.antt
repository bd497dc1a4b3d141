mod Ranges
mod Runs
mod Gaps
mod Marks
