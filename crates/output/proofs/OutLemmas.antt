-- Writing texts one after another.
use Rattle.std.proofs.Common.{◌≡◌, ℕ, ◌+◌, List, [], ◌++◌, refl, sym, ◌∙◌, ap, subst, append_assoc, arith}
use Rattle.output.specs.Outs.{IsBeginning, Wrote, Broke}

-- two writes after one another leave what one of both texts leaves
joined : (waiting xs part left ys more rest : List ℕ) → waiting ++ xs ≡ part ++ left → left ++ ys ≡ more ++ rest → waiting ++ (xs ++ ys) ≡ (part ++ more) ++ rest
joined waiting xs part left ys more rest e f =
    sym (append_assoc waiting xs ys) ∙ ap (λ zs. zs ++ ys) e ∙ append_assoc part left ys ∙ ap (λ zs. part ++ zs) f ∙ sym (append_assoc part more rest)

module _ {W : Type 0} (took : W → List ℕ → ℕ → W → Type 0) where
  -- the law `at_once` of outputs
  abbrev pub AtOnce : Type 0
  AtOnce = (s : W) → took s [] 0 s

  -- the law `in_turn` of outputs
  abbrev pub InTurn : Type 0
  InTurn = (s t u : W) (xs ys : List ℕ) (m n : ℕ) → took s xs m t → took t ys n u → took s (xs ++ ys) (m + n) u

  -- nothing is taken yet, and all the text waits
  pub wrote_waiting : AtOnce → (out : W) (waiting bytes left : List ℕ) → left ≡ waiting ++ bytes → Wrote took out waiting bytes out left
  wrote_waiting at_once out waiting bytes left e = record { part = []; taken = at_once out; in_order = sym e }

  -- the run ends before anything is put
  pub broke_waiting : AtOnce → (out : W) (waiting bytes : List ℕ) → Broke took out waiting bytes 0 out
  broke_waiting at_once out waiting bytes = record { part = []; taken = at_once out; beginning = (waiting ++ bytes, refl) }

  -- writes one text and then another
  pub wrote_in_turn : InTurn → (s t u : W) (waiting xs left ys rest : List ℕ) → Wrote took s waiting xs t left → Wrote took t left ys u rest → Wrote took s waiting (xs ++ ys) u rest
  wrote_in_turn in_turn s t u waiting xs left ys rest a b = record {
    part = a.part ++ b.part;
    taken = in_turn s t u a.part b.part 0 0 a.taken b.taken;
    in_order = joined waiting xs a.part left ys b.part rest a.in_order b.in_order;
  }

  -- writes one text, and breaks at the second
  pub broke_in_turn : InTurn → (s t u : W) (waiting xs left ys : List ℕ) (n : ℕ) → Wrote took s waiting xs t left → Broke took t left ys n u → Broke took s waiting (xs ++ ys) n u
  broke_in_turn in_turn s t u waiting xs left ys n a b = record {
    part = a.part ++ b.part;
    taken = subst (λ (k : ℕ). took s (a.part ++ b.part) k u) (omega arith) (in_turn s t u a.part b.part 0 n a.taken b.taken);
    beginning = (b.beginning.0, sym (joined waiting xs a.part left ys b.part b.beginning.0 a.in_order (sym b.beginning.1)));
  }

  -- a run that broke at a text has also broken at a longer text
  pub broke_before : (s u : W) (waiting xs ys : List ℕ) (n : ℕ) → Broke took s waiting xs n u → Broke took s waiting (xs ++ ys) n u
  broke_before s u waiting xs ys n b = record {
    part = b.part;
    taken = b.taken;
    beginning = (b.beginning.0 ++ ys, sym (append_assoc b.part b.beginning.0 ys) ∙ ap (λ zs. zs ++ ys) b.beginning.1 ∙ append_assoc waiting xs ys);
  }

  -- replaces the written bytes by equal ones
  pub wrote_as : (s t : W) (waiting left xs ys : List ℕ) → xs ≡ ys → Wrote took s waiting xs t left → Wrote took s waiting ys t left
  wrote_as s t waiting left xs ys e a = subst (λ (bytes : List ℕ). Wrote took s waiting bytes t left) e a

  -- replaces the bytes of a run that broke by equal ones
  pub broke_as : (s t : W) (waiting xs ys : List ℕ) (n : ℕ) → xs ≡ ys → Broke took s waiting xs n t → Broke took s waiting ys n t
  broke_as s t waiting xs ys n e a = subst (λ (bytes : List ℕ). Broke took s waiting bytes n t) e a

  -- writes one text and then another, given that both together are these bytes
  pub wrote_more : InTurn → (s t u : W) (waiting xs left ys rest both : List ℕ) → xs ++ ys ≡ both → Wrote took s waiting xs t left → Wrote took t left ys u rest → Wrote took s waiting both u rest
  wrote_more in_turn s t u waiting xs left ys rest both e a b = wrote_as s u waiting rest (xs ++ ys) both e (wrote_in_turn in_turn s t u waiting xs left ys rest a b)

  -- answers the clause `broke` of a loop at the text where it breaks
  pub broke_more : InTurn → (s t u : W) (waiting xs left ys later all : List ℕ) (n : ℕ) → (xs ++ ys) ++ later ≡ all → Wrote took s waiting xs t left → Broke took t left ys n u → Broke took s waiting all n u
  broke_more in_turn s t u waiting xs left ys later all n e a b = broke_as s u waiting ((xs ++ ys) ++ later) all n e (broke_before s u waiting (xs ++ ys) later n (broke_in_turn in_turn s t u waiting xs left ys n a b))

  -- after the last flush, all the text has been taken
  pub wrote_all : InTurn → (s t u : W) (waiting bytes left : List ℕ) → Wrote took s waiting bytes t left → took t left 0 u → took s (waiting ++ bytes) 0 u
  wrote_all in_turn s t u waiting bytes left a b = subst (λ (all : List ℕ). took s all 0 u) (sym a.in_order) (in_turn s t u a.part left 0 0 a.taken b)

  -- answers the clause `broke` of a run, at its last flush
  pub broke_last : InTurn → (s t u : W) (bytes left : List ℕ) → Wrote took s [] bytes t left → (part : List ℕ) × IsBeginning part left × took t part 1 u → Broke took s [] bytes 1 u
  broke_last in_turn s t u bytes left a b = record {
    part = a.part ++ b.0;
    taken = in_turn s t u a.part b.0 0 1 a.taken b.2;
    beginning = (b.1.0, append_assoc a.part b.0 b.1.0 ∙ ap (λ rest. a.part ++ rest) b.1.1 ∙ sym a.in_order);
  }
