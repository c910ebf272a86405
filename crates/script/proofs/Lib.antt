pub mod BreakLemmas
pub mod PrinterLemmas
pub mod TextLemmas
pub mod EndLemmas
