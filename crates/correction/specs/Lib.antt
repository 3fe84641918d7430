pub mod Correction
pub mod Locators
pub mod Examples
