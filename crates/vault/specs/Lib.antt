pub mod Vault
pub mod BenchExamples
