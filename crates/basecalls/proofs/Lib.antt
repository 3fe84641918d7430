pub mod CallCases
pub mod Choices
pub mod PassingCalls
pub mod ChosenLetters
