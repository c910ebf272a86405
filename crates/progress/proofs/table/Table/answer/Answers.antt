use Rattle.std.proofs.Common.{◌≡◌, ◌<◌, true, not, ◌&&◌, eqb, length, ap, sym, subst, ◌∙◌, arith}
use Rattle.std.specs.Prelude.{Result, Ok, Err, OnErr}
use Rattle.progress.specs.Kept.{AreCurrent, IsCurrent, is_asked, marks_of}
use Rattle.progress.specs.Tallies.{is_marked}
use Rattle.progress.proofs.AskedLemmas.{asked_set}
use Rattle.progress.proofs.ChangeLemmas.{set_length}
use Rattle.progress.proofs.CurrentLemmas.{current_set}
use Rattle.progress.proofs.MarkLemmas.{same_mark, unmarked}
use Rattle.progress.proofs.table.Table.answer.Goals as goal

on_err : {A E : Type 0} (r : Result A E) (P : Type 0) → P → OnErr r P
on_err (Ok x) P p = tt
on_err (Err e) P p = p

pub returns-in_err-found-clause-tally : goal.returns-in_err-found-clause-tally
returns-in_err-found-clause-tally g c =
    let times = g.T.PartialOrder.times in
    let nodes = c.args.graph.now in
    let items = c.args.items.now in
    let ks = c.self.inside.kept.items in
    let at = c.number.ensures ∙ c.node-2.ensures in
    let long = ap length c.self.view_is in
    let within : c.number.result < length c.self.inside.kept.items = omega (arith, at, long, c.requires.node, c.requires.tally.len) in
    record {
      plan = c.requires.tally.plan;
      len = set_length ks c.number.result c.answer.new.self ∙ (long ∙ c.requires.tally.len);
      current = current_set times nodes items ks c.number.result c.answer.new.self within (subst (λ n. IsCurrent times nodes items n c.answer.new.self) (sym at) c.answer.ensures.current)
          (subst (λ xs. AreCurrent times nodes items xs) (sym c.self.view_is) c.requires.tally.current);
    }

pub returns-in_err-found-clause-unanswered : goal.returns-in_err-found-clause-unanswered
returns-in_err-found-clause-unanswered g c =
    let at = c.number.ensures ∙ c.node-2.ensures in
    let long = ap length c.self.view_is in
    let within : c.number.result < length c.self.inside.kept.items = omega (arith, at, long, c.requires.node, c.requires.tally.len) in
    on_err c.from_residual-in_err-found.result _
    (same_mark c.self.inside.kept.items c.number.result c.index_mut.result.now c.answer.new.self within c.index_mut.ensures.value c.in_err-found.ensures.unchanged
    ∙ ap marks_of c.self.view_is)

pub invariant_of-self-2 : goal.invariant_of-self-2
invariant_of-self-2 g c =
    let at = c.number.ensures ∙ (c.node-2.ensures ∙ sym c.node.ensures) in
    let asked = c.remember.new.asked.items in
    asked_set asked c.self.inside.kept.items c.number.result c.answer.new.self (subst (λ n. is_asked asked n ≡ true) (sym at) c.in_ok-remember.ensures.there) c.remember.ensures.asked

pub returns-clause-tally : goal.returns-clause-tally
returns-clause-tally g c =
    let times = g.T.PartialOrder.times in
    let nodes = c.args.graph.now in
    let items = c.args.items.now in
    let ks = c.self.inside.kept.items in
    let at = c.number.ensures ∙ c.node-2.ensures in
    let long = ap length c.self.view_is in
    let within : c.number.result < length c.self.inside.kept.items = omega (arith, at, long, c.requires.node, c.requires.tally.len) in
    record {
      plan = c.requires.tally.plan;
      len = set_length ks c.number.result c.answer.new.self ∙ (long ∙ c.requires.tally.len);
      current = current_set times nodes items ks c.number.result c.answer.new.self within (subst (λ n. IsCurrent times nodes items n c.answer.new.self) (sym at) c.answer.ensures.current)
          (subst (λ xs. AreCurrent times nodes items xs) (sym c.self.view_is) c.requires.tally.current);
    }

pub returns-clause-unmarked : goal.returns-clause-unmarked
returns-clause-unmarked g c n =
    let at = c.number.ensures ∙ c.node-2.ensures in
    let long = ap length c.self.view_is in
    let within : c.number.result < length c.self.inside.kept.items = omega (arith, at, long, c.requires.node, c.requires.tally.len) in
    unmarked c.self.inside.kept.items c.number.result n c.answer.new.self within c.in_ok-found.ensures.unmarked
    ∙ (λ k. is_marked (marks_of (c.self.view_is k)) n && not (eqb n (at k)))
