pub mod SeedPositions
pub mod NoSeedTwice
pub mod Examples
