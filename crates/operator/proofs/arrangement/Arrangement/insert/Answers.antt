use Rattle.std.proofs.Common.{◌≡◌, ◌∷◌, IsTrue, sym, ◌∙◌, ap, subst}
use Rattle.std.proofs.lemmas.Result.{IfOk-at_ok}
use Rattle.lattice.specs.Frontiers.{all_beyond}
use Rattle.trace.specs.BatchLists.{insertion_of}
use Rattle.trace.proofs.BoundaryLemmas.{end-append}
use Rattle.spine.specs.Spines.{SpineState}
use Rattle.operator.specs.Arrangements.{ArrangementState, IsOpen, rows_have, upper_of}
use Rattle.operator.proofs.ArrangementLemmas.{arrangement_inserted, with_batch}
use Rattle.operator.proofs.OpenLemmas.{open_inserted}
use Rattle.operator.proofs.arrangement.Arrangement.insert.Goals as goal

pub invariant_of-self : goal.invariant_of-self
invariant_of-self g c =
    let times = g.T.PartialOrder.times in
    let s = c.self.inside.spine in
    let b = c.args.batch in
    let a : ArrangementState g.row.T.Denot = record { width = c.self.inside.width; spine = s; waiting = c.self.inside.waiting.updates; holds = c.self.inside.holds.items } in
    let view : a ≡ c.args.self.now = c.self.view_is in
    let inserted : c.insert.new.self ≡ with_batch s b c.insert.new.self.list.reserved = IfOk-at_ok (λ _. c.insert.new.self ≡ with_batch s b c.insert.new.self.list.reserved) c.unwrap.ensures c.insert.ensures.inserted in
    let lower : b.description.lower ≡ upper_of s = c.requires.continues.2 ∙ ap (λ (x : ArrangementState g.row.T.Denot). upper_of x.spine) (sym view) in
    let on = subst (λ F. IsTrue (all_beyond times F b.description.upper)) lower c.known_forward.ensures in
    let rows = subst (λ (x : ArrangementState g.row.T.Denot). IsTrue (rows_have x.width b.updates)) (sym view) c.requires.rows in (
      arrangement_inserted times g.met.T.PartialOrder.order a c.insert.new.self b c.insert.new.self.list.reserved on rows c.requires.times inserted c.self.invariant.0,
      c.self.invariant.1 ∙ sym (ap (λ (x : SpineState g.row.T.Denot). x.list.worker) inserted),
      c.self.invariant.2 ∙ sym (ap (λ (x : SpineState g.row.T.Denot). x.list.node) inserted),
    )

pub returns-clause-upper : goal.returns-clause-upper
returns-clause-upper g c =
    let s = c.self.inside.spine in
    let b = c.args.batch in
    let inserted : c.insert.new.self ≡ with_batch s b c.insert.new.self.list.reserved = IfOk-at_ok (λ _. c.insert.new.self ≡ with_batch s b c.insert.new.self.list.reserved) c.unwrap.ensures c.insert.ensures.inserted in
    ap (λ (x : SpineState g.row.T.Denot). upper_of x) inserted ∙ end-append s.list.start s.list.batches b

pub returns-clause-open : goal.returns-clause-open
returns-clause-open g c h is =
    let times = g.T.PartialOrder.times in
    let s = c.self.inside.spine in
    let b = c.args.batch in
    let inserted : c.insert.new.self ≡ with_batch s b c.insert.new.self.list.reserved = IfOk-at_ok (λ _. c.insert.new.self ≡ with_batch s b c.insert.new.self.list.reserved) c.unwrap.ensures c.insert.ensures.inserted in
    subst (λ (x : SpineState g.row.T.Denot). IsOpen times x (insertion_of b ∷ h)) (sym inserted)
    (open_inserted times s b c.insert.new.self.list.reserved h (subst (λ (x : ArrangementState g.row.T.Denot). IsOpen times x.spine h) (sym c.self.view_is) is))
