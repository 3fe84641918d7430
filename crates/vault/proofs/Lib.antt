pub mod OfferedReads
pub mod PrintedReads
pub mod FileReads
pub mod NeverRefused15
pub mod RightSheets
pub mod CustomersFile
pub mod FromFileToVault
