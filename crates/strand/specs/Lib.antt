pub mod ReadCheck
pub mod LegalStrand
pub mod CForm
pub mod Writer
pub mod WriterRuns
pub mod RoundTrip
pub mod Loops
