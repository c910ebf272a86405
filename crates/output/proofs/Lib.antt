pub mod OutLemmas
