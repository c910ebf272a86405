use Rattle.std.proofs.Common.{◌≡◌, ℕ, List, Bor, map, length, ap, ◌∙◌, arith}
use Rattle.std.proofs.lemmas.List.{length-map}
use Rattle.grammar.proofs.WordLemmas.{columns_length}
use Rattle.grammar.proofs.words.row.Goals as goal

pub of-requires-clause-some : goal.of-requires-clause-some
of-requires-clause-some c =
    let as_many : length c.deref.result.now ≡ length c.args.words.now =
    ap length c.deref.ensures ∙ columns_length (map (λ (w : Bor (List ℕ)). w.now) c.args.words.now) c.in_ok-columns.columns.items c.in_ok-columns.ensures ∙ length-map c.args.words.now (λ (w : Bor (List ℕ)). w.now) in
    omega (arith, c.requires.some)

pub of-requires-clause-few : goal.of-requires-clause-few
of-requires-clause-few c =
    let as_many : length c.deref.result.now ≡ length c.args.words.now =
    ap length c.deref.ensures ∙ columns_length (map (λ (w : Bor (List ℕ)). w.now) c.args.words.now) c.in_ok-columns.columns.items c.in_ok-columns.ensures ∙ length-map c.args.words.now (λ (w : Bor (List ℕ)). w.now) in
    omega (arith, c.requires.few)
