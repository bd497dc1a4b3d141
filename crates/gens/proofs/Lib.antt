mod Covers
mod Gens
