-- Writing texts one after another, of which only the first is known.
use Rattle.std.proofs.Common.{◌≡◌, ℕ, List, [], ◌++◌, sym, ◌∙◌, ap, subst, append_assoc, arith}
use Rattle.std.proofs.lemmas.List.{append-nil}
use Rattle.output.specs.Outs.{Wrote}
use Rattle.output.proofs.OutLemmas.{AtOnce, InTurn, wrote_in_turn}
use Rattle.explain.specs.Explanations.{WroteSome, TookSome}

module _ {W : Type 0} (took : W → List ℕ → ℕ → W → Type 0) where
  -- before anything is put, some text, the empty one, is written
  pub nothing_yet : AtOnce took → (s : W) (waiting : List ℕ) → WroteSome took s waiting s waiting
  nothing_yet at_once s waiting = ([], record { part = []; taken = at_once s; in_order = append-nil waiting })

  -- some text and then some more is some text
  pub some_more : InTurn took → (s t u : W) (waiting left rest : List ℕ) → WroteSome took s waiting t left → WroteSome took t left u rest → WroteSome took s waiting u rest
  some_more in_turn s t u waiting left rest a b = (a.0 ++ b.0, wrote_in_turn took in_turn s t u waiting a.0 left b.0 rest a.1 b.1)

  -- after some text, an output that then took some bytes took some in all
  pub took_behind : InTurn took → (s t u : W) (waiting left : List ℕ) (n : ℕ) → WroteSome took s waiting t left → TookSome took t n u → TookSome took s n u
  took_behind in_turn s t u waiting left n a b = (a.1.part ++ b.0, subst (λ (k : ℕ). took s (a.1.part ++ b.0) k u) (omega arith) (in_turn s t u a.1.part b.0 0 n a.1.taken b.1))

  -- a text and then some more
  pub some_behind : InTurn took → (s t u : W) (waiting xs left rest : List ℕ) → Wrote took s waiting xs t left → WroteSome took t left u rest → (ys : List ℕ) × Wrote took s waiting (xs ++ ys) u rest
  some_behind in_turn s t u waiting xs left rest a b = (b.0, wrote_in_turn took in_turn s t u waiting xs left b.0 rest a b.1)

  -- after the last flush, the text and what was added to it have been taken
  pub wrote_all : InTurn took → (s t u : W) (empty text left more : List ℕ) → empty ≡ [] → Wrote took s empty text t left → took t (left ++ more) 0 u → took s (text ++ more) 0 u
  wrote_all in_turn s t u empty text left more e a b = subst (λ (all : List ℕ). took s all 0 u)
      (sym (append_assoc a.part left more) ∙ ap (λ xs. xs ++ more) (sym a.in_order ∙ ap (λ none. none ++ text) e))
      (in_turn s t u a.part (left ++ more) 0 0 a.taken b)
