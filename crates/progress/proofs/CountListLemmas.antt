-- What an edit of counts that are kept by item makes of the list of items.
use Rattle.std.proofs.Common.{◌≡◌, ℕ, zero, suc, ◌+◌, ◌<◌, Bool, true, false, cond, ◌||◌, List, [], ◌∷◌, ◌++◌, length, Some, None, refl, ap, sym, ◌∙◌, arith, ◌⊎◌, inl, inr, ⊎_elim}
use Rattle.std.specs.Prelude.{replicate}
use Rattle.std.specs.List.{filter, list_any}
use Rattle.std.specs.BTreeMap.{insert_entry, is_at}
use Rattle.std.specs.Map.{lookup, remove_entry, set_value}
use Rattle.std.specs.Ordering.{is_eq, match_ordering}
use Rattle.std.specs.declared.cmp.Ordering.{Ordering}
use Rattle.std.specs.declared.cmp.Ordering.TheVariants.{Less, Equal, Greater}
use Rattle.std.proofs.lemmas.Bool.{true≢false}
use Rattle.std.proofs.lemmas.List.{length-append, length-replicate}
use Rattle.lattice.specs.Times.{Times}
use Rattle.lattice.specs.Frontiers.{is_beyond}
use Rattle.antichain.proofs.Lists.{Among}
use Rattle.progress.specs.CountLists.{CountAlike, listed}
use Rattle.progress.proofs.CountLemmas.{one_more, swapped}

module _ {A : Type 0} where
  -- one item more behind some others
  pub carried : (before new old : List A) (k : A) → CountAlike new (k ∷ old) → CountAlike (before ++ new) (k ∷ (before ++ old))
  carried [] new old k h test = h test
  carried (p ∷ ps) new old k h test =
      one_more test (ps ++ new) p
      ∙ (ap (λ n. cond (test p) (suc n) n) (carried ps new old k h test ∙ one_more test (ps ++ old) k)
      ∙ (swapped (test p) (test k) (length (filter test (ps ++ old)))
      ∙ (sym (ap (λ n. cond (test k) (suc n) n) (one_more test (ps ++ old) p))
      ∙ sym (one_more test (p ∷ (ps ++ old)) k))))

  -- lists that count alike do so with others behind them
  pub behind : (new old rest : List A) → CountAlike new old → CountAlike (new ++ rest) (old ++ rest)
  behind new old rest h test = spread new ∙ (ap (λ n. n + length (filter test rest)) (h test) ∙ sym (spread old))
    where
      by : (b : Bool) (m n : ℕ) → cond b (suc (m + n)) (m + n) ≡ cond b (suc m) m + n
      by true m n = omega arith
      by false m n = refl

      spread : (xs : List A) → length (filter test (xs ++ rest)) ≡ length (filter test xs) + length (filter test rest)
      spread [] = omega arith
      spread (x ∷ xs) =
          one_more test (xs ++ rest) x
          ∙ (ap (λ n. cond (test x) (suc n) n) (spread xs)
          ∙ (by (test x) (length (filter test xs)) (length (filter test rest)) ∙ ap (λ n. n + length (filter test rest)) (sym (one_more test xs x))))

  -- lists that count alike are equally long
  pub same_length : (xs ys : List A) → CountAlike xs ys → length xs ≡ length ys
  same_length xs ys h = sym (ap length (all xs)) ∙ (h (λ _. true) ∙ ap length (all ys))
    where
      all : (zs : List A) → filter (λ _. true) zs ≡ zs
      all [] = refl
      all (z ∷ zs) = ap (λ l. z ∷ l) (all zs)

  -- what is in one list or the other
  pub among_both : (xs ys : List A) (k : A) → Among k (xs ++ ys) → Among k xs ⊎ Among k ys
  among_both [] ys k m = inr m
  among_both (x ∷ xs) ys k m = ⊎_elim (λ e. inl (inl e)) (λ n. ⊎_elim (λ a. inl (inr a)) (λ b. inr b) (among_both xs ys k n)) m

  pub among_copies : (n : ℕ) (x k : A) → Among k (replicate n x) → x ≡ k
  among_copies zero x k m = absurd m
  among_copies (suc n) x k m = ⊎_elim (λ e. e) (λ r. among_copies n x k r) m

  module _ (at : A → Bool) (k : A) where
    -- how often an item is counted beyond the first time is less than how many there are
    pub fits : (es : List (A × ℕ)) (v : ℕ) → lookup at es ≡ Some v → v < length (listed es)
    fits [] v h = absurd (cc)
    fits (e ∷ es) v h =
        let long = length-append (replicate e.1 e.0) (listed es) in
        let many = length-replicate e.1 e.0 in
        elim (at e.0) as (λ b. cond b (Some e.1) (lookup at es) ≡ Some v → v < suc (length (replicate e.1 e.0 ++ listed es))) [
          | true ↦ λ r. let same : e.1 ≡ v = cc in omega (arith, same, long, many)
          | false ↦ λ r. let less = fits es v r in omega (arith, less, long)
        ] h

    -- an item that is counted has an entry
    pub missing : (es : List (A × ℕ)) → ((e : A) → e ≡ k → at e ≡ true) → lookup at es ≡ None → Among k (listed es) → ⊥
    missing [] found h m = m
    missing (e ∷ es) found h m =
        elim (at e.0) as (λ b. at e.0 ≡ b → cond b (Some e.1) (lookup at es) ≡ None → ⊥) [
          | true ↦ λ q r. absurd (cc)
          | false ↦ λ q r.
              ⊎_elim
              (λ s. true≢false (sym (found e.0 s) ∙ q))
              (λ s. ⊎_elim (λ a. true≢false (sym (found e.0 (among_copies e.1 e.0 k a)) ∙ q)) (λ b. missing es found r b) (among_both (replicate e.1 e.0) (listed es) k s))
              m
        ] refl h

    module _ (exact : (e : A) → at e ≡ true → e ≡ k) where
      -- a number that is one more counts one item more
      pub written : (es : List (A × ℕ)) (v w : ℕ) → lookup at es ≡ Some v → CountAlike (listed (set_value at es (suc w))) (k ∷ listed (set_value at es w))
      written [] v w h test = absurd (cc)
      written (e ∷ es) v w h test =
          elim (at e.0) as (λ b. at e.0 ≡ b → cond b (Some e.1) (lookup at es) ≡ Some v → length (filter test (listed (cond b ((e.0, suc w) ∷ es) (e ∷ set_value at es (suc w))))) ≡ length (filter test (k ∷ listed (cond b ((e.0, w) ∷ es) (e ∷ set_value at es w))))) [
            | true ↦ λ q r. ap (λ z. length (filter test (z ∷ (e.0 ∷ (replicate w e.0 ++ listed es))))) (exact e.0 q)
            | false ↦ λ q r. carried (e.0 ∷ replicate e.1 e.0) (listed (set_value at es (suc w))) (listed (set_value at es w)) k (written es v w r) test
          ] refl h

      -- without its entry, an item that was counted once is counted once less
      pub dropped : (es : List (A × ℕ)) → lookup at es ≡ Some 0 → CountAlike (k ∷ listed (remove_entry at es)) (listed es)
      dropped [] h test = absurd (cc)
      dropped (e ∷ es) h test =
          elim (at e.0) as (λ b. at e.0 ≡ b → cond b (Some e.1) (lookup at es) ≡ Some 0 → length (filter test (k ∷ listed (cond b es (e ∷ remove_entry at es)))) ≡ length (filter test (listed (e ∷ es)))) [
            | true ↦ λ q r. let same : e.1 ≡ 0 = cc in sym (λ i. length (filter test (exact e.0 q i ∷ (replicate (same i) e.0 ++ listed es))))
            | false ↦ λ q r. sym (carried (e.0 ∷ replicate e.1 e.0) (listed es) (listed (remove_entry at es)) k (λ p. sym (dropped es r p)) test)
          ] refl h

    -- the number that an entry has already
    pub same_value : (es : List (A × ℕ)) (v : ℕ) → lookup at es ≡ Some v → set_value at es v ≡ es
    same_value [] v h = absurd (cc)
    same_value (e ∷ es) v h =
        elim (at e.0) as (λ b. cond b (Some e.1) (lookup at es) ≡ Some v → cond b ((e.0, v) ∷ es) (e ∷ set_value at es v) ≡ e ∷ es) [
          | true ↦ λ r. let same : v ≡ e.1 = cc in ap (λ w. (e.0, w) ∷ es) same
          | false ↦ λ r. ap (λ l. e ∷ l) (same_value es v r)
        ] h

  -- a new entry counts its item once
  pub entered : (cmp : A → A → Ordering) (k : A) (es : List (A × ℕ)) → lookup (is_at (cmp k)) es ≡ None → CountAlike (listed (insert_entry cmp es k 0)) (k ∷ listed es)
  entered cmp k [] h test = refl
  entered cmp k (e ∷ es) h test =
      elim (cmp k e.0) as (λ o. cond (is_eq o) (Some e.1) (lookup (is_at (cmp k)) es) ≡ None → length (filter test (listed (match_ordering o ((k, 0) ∷ (e ∷ es)) ((e.0, 0) ∷ es) (e ∷ insert_entry cmp es k 0)))) ≡ length (filter test (k ∷ listed (e ∷ es)))) [
        | Less ↦ λ r. refl
        | Equal ↦ λ r. absurd (cc)
        | Greater ↦ λ r. carried (e.0 ∷ replicate e.1 e.0) (listed (insert_entry cmp es k 0)) (listed es) k (entered cmp k es r) test
      ] h

module _ {T : Type 0} (times : Times T) where
  copies_any : (p : T → Bool) (n : ℕ) (x : T) (ys : List T) → (p x || list_any p (replicate n x ++ ys)) ≡ (p x || list_any p ys)
  copies_any p zero x ys = refl
  copies_any p (suc n) x ys = again (p x) (list_any p (replicate n x ++ ys)) ∙ copies_any p n x ys
    where
      again : (a b : Bool) → (a || (a || b)) ≡ (a || b)
      again true b = refl
      again false b = refl

  -- how often a time is counted does not matter to a frontier
  pub listed_first : (x : T) (n : ℕ) (ys : List T) (t : T) → is_beyond times (x ∷ (replicate n x ++ ys)) t ≡ is_beyond times (x ∷ ys) t
  listed_first x n ys t = copies_any (λ f. times.below f t) n x ys
