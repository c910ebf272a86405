-- One more update in the loop of `gather`: either the current group grows, or it ends and the next
-- one begins.
use Rattle.std.proofs.Common.{◌≡◌, true, false, List, ◌∷◌, ◌++◌, ℤ, ◌+ℤ◌, refl, append_assoc}
use Rattle.std.specs.Prelude.{FitsSigned}
use Rattle.std.specs.Int.{w64}
use Rattle.std.specs.declared.cmp.Ordering.{Ordering}
use Rattle.update.specs.declared.change.Update.{Update}
use Rattle.update.specs.Groups.{is_same, group_sum, group_sums, groups_of, AllFit}

module _ {T : Type 0} (cmp : T → T → Ordering) where
  -- an update of the current group adds its diff to the total
  pub runs_grow : (u v : Update T) (n : ℤ) (more : List (Update T)) → is_same cmp u v ≡ true → groups_of cmp u n (v ∷ more) ≡ groups_of cmp u (n +ℤ v.diff) more
  runs_grow u v n more h = rw h refl

  -- an update of another group ends the current group and begins its own
  pub runs_begin : (u v : Update T) (n : ℤ) (more : List (Update T)) → is_same cmp u v ≡ false → groups_of cmp u n (v ∷ more) ≡ record { first = u; total = n } ∷ groups_of cmp v v.diff more
  runs_begin u v n more h = rw h refl

  -- an update of the current group: the list of group sums does not change
  pub group_grow : (u v : Update T) (n m : ℤ) (more done : List (Update T)) → is_same cmp u v ≡ true → m ≡ n +ℤ v.diff → done ++ group_sums (groups_of cmp u m more) ≡ done ++ group_sums (groups_of cmp u n (v ∷ more))
  group_grow u v n m more done h e = rw (e, runs_grow u v n more h) refl

  -- and if all totals fitted before, they still do
  pub fit_grow : (u v : Update T) (n m : ℤ) (more : List (Update T)) → is_same cmp u v ≡ true → m ≡ n +ℤ v.diff → AllFit (groups_of cmp u n (v ∷ more)) → AllFit (groups_of cmp u m more)
  fit_grow u v n m more h e a = rw e (rw (runs_grow u v n more h) at a)

  -- an update of another group: the list of group sums does not change
  pub group_begin : (u v w : Update T) (n m : ℤ) (more done next : List (Update T)) → is_same cmp u v ≡ false → w ≡ v → m ≡ v.diff → next ≡ done ++ group_sum u n → next ++ group_sums (groups_of cmp w m more) ≡ done ++ group_sums (groups_of cmp u n (v ∷ more))
  group_begin u v w n m more done next h e k l =
      rw (e, k, l, runs_begin u v n more h) (append_assoc done (group_sum u n) (group_sums (groups_of cmp v v.diff more)))

  -- and if all totals fitted before, they still do
  pub fit_begin : (u v w : Update T) (n m : ℤ) (more : List (Update T)) → is_same cmp u v ≡ false → w ≡ v → m ≡ v.diff → AllFit (groups_of cmp u n (v ∷ more)) → AllFit (groups_of cmp w m more)
  fit_begin u v w n m more h e k a = rw (e, k) (rw (runs_begin u v n more h) at a).1

  -- conversely, if all totals fit after the current group grew, they fitted before
  pub fit_grown : (u v : Update T) (n m : ℤ) (more : List (Update T)) → is_same cmp u v ≡ true → m ≡ n +ℤ v.diff → AllFit (groups_of cmp u m more) → AllFit (groups_of cmp u n (v ∷ more))
  fit_grown u v n m more h e a = rw (runs_grow u v n more h) (rw e at a)

  -- conversely, if all totals fit after a group began and the total that ended fits, they fitted
  -- before
  pub fit_begun : (u v w : Update T) (n m : ℤ) (more : List (Update T)) → is_same cmp u v ≡ false → w ≡ v → m ≡ v.diff → FitsSigned w64 n → AllFit (groups_of cmp w m more) → AllFit (groups_of cmp u n (v ∷ more))
  fit_begun u v w n m more h e k f a = rw (runs_begin u v n more h) (f, rw (e, k) at a)
