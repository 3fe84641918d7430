pub mod Bytes
pub mod Shift
pub mod Generator
pub mod SeedPeriod
pub mod CheckBytes
pub mod Products
pub mod Loops
