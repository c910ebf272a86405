pub mod AppendLaws
pub mod Faults
pub mod Outs
pub mod Lines
