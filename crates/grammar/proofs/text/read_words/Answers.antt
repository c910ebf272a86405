use Rattle.std.proofs.Common.{◌==◌, ◌≡◌, ◌∙◌, ◌++◌, ap, map, filter, not, eqb, length, lit<, rules, tests, List, ℕ, Bor}
use Rattle.std.specs.List.{slice_split}
use Rattle.std.proofs.lemmas.List.Elements.{filter_from_retain}
use Rattle.std.proofs.lemmas.Iterator.Consumers.{YieldsList-at}
use Rattle.std.proofs.lemmas.Iterator.Splits.{YieldsList-from_str_split}
use Rattle.grammar.proofs.TextLemmas.{all_drained, map-filter}
use Rattle.grammar.proofs.text.read_words.Goals as goal

pub returns : goal.returns
returns c =
    let ran = c.extend.ensures.ran in
    let now = λ (w : Bor (List ℕ)). w.now in
    let pieces : map now c.extend.new.self.items ≡ slice_split (λ b. b == 32) c.args.line.now =
    ap (map now) (ran.3.0 ∙ ap (λ ws. ws ++ ran.1) c.clear.ensures.items)
    ∙ all_drained _ ran.1 c.extend.result _ c.in_ok-extend.was ran.4 (YieldsList-at ran.2 (YieldsList-from_str_split 32 c.args.line.now (lit< tt) c.split.ensures.text c.split.ensures.has_more c.split.ensures.pattern)) in
    let kept : c.retain.new.self.items ≡ filter (λ (w : Bor (List ℕ)). not (eqb (length w.now) 0)) c.extend.new.self.items = filter_from_retain _ _ (λ p x b q k. search (rules, tests)) _ _ _ c.retain.ensures.filtered in
    ap (map now) kept ∙ map-filter now (λ (w : List ℕ). not (eqb (length w) 0)) c.extend.new.self.items ∙ ap (filter (λ (w : List ℕ). not (eqb (length w) 0))) pieces
