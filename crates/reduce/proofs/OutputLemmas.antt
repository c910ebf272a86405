-- What was gathered is the output of a call, once it is put in place.
use Rattle.std.proofs.Common.{◌≡◌, List, ℤ, sym, subst}
use Rattle.update.specs.Bags.{Entry}
use Rattle.update.specs.declared.change.Update.{Update}
use Rattle.trace.specs.Readings.{Insertion}
use Rattle.reduce.specs.Histories.{HistoryState, ReduceView}
use Rattle.reduce.specs.Outputs.{IsOutput}
use Rattle.lattice.specs.Times.{Times}

module _ {T R : Type 0} (times : Times T) (reduces : R → List ℤ → List Entry → List Entry)
    (held front : List T) (holds : List (Insertion T) → Type 0) where
  -- the state before the call was folded, and has the new histories after it
  pub output_of : (was folded new : ReduceView T R) (hs : List (HistoryState T)) (out out2 : List (Update T)) → folded ≡ was → new.histories ≡ hs → out2 ≡ out
      → IsOutput times folded.key (reduces folded.reducer) held front holds folded.histories hs out
      → IsOutput times was.key (reduces was.reducer) held front holds was.histories new.histories out2
  output_of was folded new hs out out2 e h o is =
      subst (λ (v : ReduceView T R). IsOutput times v.key (reduces v.reducer) held front holds v.histories new.histories out2) e
      (subst (λ z. IsOutput times folded.key (reduces folded.reducer) held front holds folded.histories z out2) (sym h)
      (subst (IsOutput times folded.key (reduces folded.reducer) held front holds folded.histories hs) (sym o) is))
