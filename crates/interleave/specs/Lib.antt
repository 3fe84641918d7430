pub mod Interleaving
pub mod Moves
pub mod InterleaveCalls
pub mod InterleaveRoundTrip
