pub mod Counting
pub mod LongLines
pub mod InputLines
pub mod LineInHand
pub mod BehindRecords
