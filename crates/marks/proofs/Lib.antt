pub mod PlainMarks
pub mod SetMarks
pub mod PackedMarks
pub mod LentBuffers
pub mod LawsHold
