pub mod Spelling
pub mod Screening
pub mod PackedBases
pub mod OrderRuns
pub mod LongestRuns
pub mod PackedRuns
pub mod MatchRows
pub mod Chunks
