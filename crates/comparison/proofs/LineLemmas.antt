-- The loop over the rows of two bags: what is written and counted so far, with what is still to
-- come, is the whole.
use Rattle.std.proofs.Common.{◌≡◌, ℕ, ◌+◌, ◌≤◌, cond, List, [], ◌∷◌, ◌++◌, length, refl, sym, ◌∙◌, ap, append_assoc, arith}
use Rattle.std.proofs.lemmas.List.{append-nil}
use Rattle.std.proofs.lemmas.List.Sums.{sum_by-cons}
use Rattle.std.specs.List.{count_by, flat_map}
use Rattle.output.specs.Outs.{Wrote, Broke}
use Rattle.update.specs.Bags.{Entry}
use Rattle.comparison.specs.declared.change.Change.{Change}
use Rattle.comparison.specs.Differences.{is_removal, is_addition, change_text}
use Rattle.comparison.specs.Merges.{merged}
use Rattle.comparison.proofs.MergeLemmas.{removals_fit, additions_fit}
use Rattle.output.proofs.OutLemmas.{InTurn, wrote_in_turn, broke_more}

module _ {W : Type 0} (took : W → List ℕ → ℕ → W → Type 0) where
  -- the rows before the cursors are printed and counted
  pub record Printed (xs ys : List Entry) (out : W) (waiting : List ℕ) (rest : List Change) (later : W) (left : List ℕ) (removals additions : ℕ) : Type 0 where
    pub written : List ℕ
    pub wrote : Wrote took out waiting written later left
    pub text : written ++ flat_map change_text rest ≡ flat_map change_text (merged xs ys)
    pub removals_so_far : removals + count_by is_removal rest ≡ count_by is_removal (merged xs ys)
    pub additions_so_far : additions + count_by is_addition rest ≡ count_by is_addition (merged xs ys)

  -- nothing is printed yet
  pub printed_none : ((s : W) → took s [] 0 s) → (xs ys : List Entry) (out : W) (waiting : List ℕ) → Printed xs ys out waiting (merged xs ys) out waiting 0 0
  printed_none at_once xs ys out waiting = record {
    written = [];
    wrote = record { part = []; taken = at_once out; in_order = append-nil waiting };
    text = refl;
    removals_so_far = omega arith;
    additions_so_far = omega arith;
  }

  -- prints and counts one row
  pub printed_more : InTurn took → (xs ys : List Entry) (s t u : W) (waiting left later : List ℕ) (now rest : List Change) (c : Change) (m n k l : ℕ) → now ≡ c ∷ rest → m ≡ k + cond (is_removal c) 1 0 → n ≡ l + cond (is_addition c) 1 0
      → Printed xs ys s waiting now t left k l → Wrote took t left (change_text c) u later → Printed xs ys s waiting rest u later m n
  printed_more in_turn xs ys s t u waiting left later now rest c m n k l e f g p w = record {
    written = p.written ++ change_text c;
    wrote = wrote_in_turn took in_turn s t u waiting p.written left (change_text c) later p.wrote w;
    text = append_assoc p.written (change_text c) (flat_map change_text rest) ∙ ap (λ (cs : List Change). p.written ++ flat_map change_text cs) (sym e) ∙ p.text;
    removals_so_far = omega (arith, f, sum_by-cons (λ (d : Change). cond (is_removal d) 1 0) c rest, ap (λ (cs : List Change). count_by is_removal cs) e, p.removals_so_far);
    additions_so_far = omega (arith, g, sum_by-cons (λ (d : Change). cond (is_addition d) 1 0) c rest, ap (λ (cs : List Change). count_by is_addition cs) e, p.additions_so_far);
  }

  -- breaks at one row
  pub broke_at_row : InTurn took → (xs ys : List Entry) (s t u : W) (waiting left : List ℕ) (now rest : List Change) (c : Change) (k l n : ℕ) → now ≡ c ∷ rest
      → Printed xs ys s waiting now t left k l → Broke took t left (change_text c) n u → Broke took s waiting (flat_map change_text (merged xs ys)) n u
  broke_at_row in_turn xs ys s t u waiting left now rest c k l n e p b =
      broke_more took in_turn s t u waiting p.written left (change_text c) (flat_map change_text rest) (flat_map change_text (merged xs ys)) n
      (append_assoc p.written (change_text c) (flat_map change_text rest) ∙ ap (λ (cs : List Change). p.written ++ flat_map change_text cs) (sym e) ∙ p.text)
      p.wrote b

  -- one row has at most one line with a minus, and all have no more than the first bag has rows
  pub removals_room : (xs ys : List Entry) (s t : W) (waiting left : List ℕ) (now rest : List Change) (c : Change) (k l : ℕ) → now ≡ c ∷ rest
      → Printed xs ys s waiting now t left k l → k + cond (is_removal c) 1 0 ≤ length xs
  removals_room xs ys s t waiting left now rest c k l e p =
      omega (arith, p.removals_so_far, ap (λ (cs : List Change). count_by is_removal cs) e, sum_by-cons (λ (d : Change). cond (is_removal d) 1 0) c rest, removals_fit xs ys)

  -- and the same with a plus for the second
  pub additions_room : (xs ys : List Entry) (s t : W) (waiting left : List ℕ) (now rest : List Change) (c : Change) (k l : ℕ) → now ≡ c ∷ rest
      → Printed xs ys s waiting now t left k l → l + cond (is_addition c) 1 0 ≤ length ys
  additions_room xs ys s t waiting left now rest c k l e p =
      omega (arith, p.additions_so_far, ap (λ (cs : List Change). count_by is_addition cs) e, sum_by-cons (λ (d : Change). cond (is_addition d) 1 0) c rest, additions_fit xs ys)
