pub mod CForms
