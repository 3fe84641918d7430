pub mod Store
pub mod Restorer
pub mod Demand3
pub mod Among
pub mod Loops
pub mod StoreLoops
pub mod Pools
