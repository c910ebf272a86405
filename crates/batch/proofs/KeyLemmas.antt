-- What crates above cite of the lemmas about keys.
pub use Rattle.columns.proofs.KeyLemmas.{parted, keeps_upto, keeps_before}
