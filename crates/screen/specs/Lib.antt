pub mod Letters
pub mod Sites
pub mod Screen
pub mod LongestRun
pub mod Loops
