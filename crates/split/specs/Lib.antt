pub mod SeedPosition
pub mod NoSeedTwice
pub mod Examples
