-- Reading a whole trace.
use Rattle.std.proofs.Common.{◌≡◌, List, [], ◌∷◌, refl, inl, inr, sym}
use Rattle.update.specs.declared.change.Update.{Update}
use Rattle.trace.specs.Readings.{Insertion, AreUpTo, IsReadable, all_updates, reached}
use Rattle.lattice.specs.Times.{Times}

module _ {T : Type 0} where
  -- up to the frontier that a trace has reached are all insertions
  pub all_up_to : (start upto : List T) (h : List (Insertion T)) → upto ≡ reached start h → AreUpTo start upto h h
  all_up_to start upto [] e = inr (e, refl)
  all_up_to start upto (i ∷ h) e = inl (record { last = i; before = h; later = []; is = refl; split = refl; ends = sym e; newest = tt })

  -- so all that is stored reads as all that was inserted
  pub whole_is_readable : (times : Times T) (since start upto : List T) (stands : List (Insertion T) → Type 0) (content : List (Update T))
      → ((h seen : List (Insertion T)) → stands h → AreUpTo start upto h seen → IsReadable times since content (all_updates seen))
      → (h : List (Insertion T)) → stands h → upto ≡ reached start h → IsReadable times since content (all_updates h)
  whole_is_readable times since start upto stands content reads h s e = reads h h s (all_up_to start upto h e)
