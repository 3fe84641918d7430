pub mod TwoCallers
pub mod ChosenLetters
pub mod Examples
