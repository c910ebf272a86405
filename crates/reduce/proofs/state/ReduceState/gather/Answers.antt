use Rattle.std.proofs.Common.{◌≡◌, ◌∙◌, List, sym, ap, subst, inl, inr, ⊎_elim, refl, arith}
use Rattle.std.specs.Prelude.{ℤ, IsTrue}
use Rattle.lattice.specs.Frontiers.{all_beyond}
use Rattle.update.specs.declared.change.Update.{Update}
use Rattle.trace.specs.Readings.{Insertion, IsReadable, all_content, all_updates}
use Rattle.joined_times.specs.Joined.{Member}
use Rattle.reduce.specs.Histories.{HistoryState, ReduceView, IsWaiting, due_of}
use Rattle.reduce.specs.Outputs.{AreApplicable, IsOutput, IsTooLarge}
use Rattle.reduce.specs.Reductions.{SumsToTaken, all_reads}
use Rattle.key_history.specs.Settlements.{AreReadable, ReadsAs}
use Rattle.reduce.specs.Visits.{all_changed}
use Rattle.reduce.proofs.FinalLemmas.{reads_as, overfull_of, within, cut, changed_once, known_after, waits_after, readable_from, reads_are, final_rest, final_stands, final_law, final_once, final_nonzero, final_at, final_quiet, final_apart}
use Rattle.correction.proofs.ResultLemmas.{passed_on}
use Rattle.reduce.proofs.TraceLemmas.{whole_is_readable}
use Rattle.reduce.proofs.state.ReduceState.gather.Given.{Over}
use Rattle.reduce.proofs.state.ReduceState.gather.Goals as goal

module _ (g : Over) (c : goal.After-from_residual g) where
  abbrev hs-1 : List (HistoryState g.row.T.Denot)
  hs-1 = c.self.inside.histories.items

  abbrev content-1 : List (Update g.row.T.Denot)
  content-1 = all_content g.S.Batch.BatchReader.content c.unwrap-batches.result.now

  waits-1 : IsWaiting c.self.inside.histories.items c.as_slice.result.now
  waits-1 = subst (IsWaiting c.self.inside.histories.items) (sym c.as_slice.ensures) c.self.invariant.3

  readable-1 : (h : List (Insertion g.row.T.Denot)) → g.S.Trace.stands c.args.trace.now h → IsReadable g.T.PartialOrder.times (g.S.Trace.held c.args.trace.now) (all_content g.S.Batch.BatchReader.content c.unwrap-batches.result.now) (all_updates h)
  readable-1 h s =
      whole_is_readable g.T.PartialOrder.times (g.S.Trace.held c.args.trace.now) (g.S.Trace.start c.args.trace.now) c.upper.result.now (g.S.Trace.stands c.args.trace.now) (all_content g.S.Batch.BatchReader.content c.unwrap-batches.result.now)
      (rw c.unwrap-batches.ensures at c.through.ensures.reads) h s (c.upper.ensures.newest h s)

  -- the pending times that are due are beyond the since of the trace
  held_is-1 : (key : List ℤ) → AreReadable g.T.PartialOrder.times (g.S.Trace.held c.args.trace.now) c.args.frontier.now (due_of key c.self.inside.histories.items)
  held_is-1 key t m p = c.requires.held key t (subst (λ z. Member t (due_of key z)) (ap (λ s. s.histories) c.self.view_is) m) p

  -- and so beyond each earlier one
  beyond-1 : (since : List g.row.T.Denot) → IsTrue (all_beyond g.T.PartialOrder.times since (g.S.Trace.held c.args.trace.now)) → (key : List ℤ) → AreReadable g.T.PartialOrder.times since c.args.frontier.now (due_of key c.self.inside.histories.items)
  beyond-1 since later key = readable_from g.met.T.PartialOrder.order since (g.S.Trace.held c.args.trace.now) c.args.frontier.now (due_of key c.self.inside.histories.items) later (held_is-1 key)

  reading-1 : (h : List (Insertion g.row.T.Denot)) (taken : List (Update g.row.T.Denot)) → g.S.Trace.stands c.args.trace.now h
      → SumsToTaken g.T.PartialOrder.times (g.S.Trace.held c.args.trace.now) c.args.frontier.now (all_updates h) taken
      → (key : List ℤ) → ReadsAs g.T.PartialOrder.times c.args.frontier.now (due_of key c.self.inside.histories.items) (all_content g.S.Batch.BatchReader.content c.unwrap-batches.result.now) taken
  reading-1 h taken s sums key =
      reads_as g.T.PartialOrder.times (g.S.Trace.held c.args.trace.now) c.args.frontier.now (due_of key c.self.inside.histories.items) (all_content g.S.Batch.BatchReader.content c.unwrap-batches.result.now) (all_updates h) taken
      (held_is-1 key) (readable-1 h s) sums

pub returns-in_err-gathered-clause-refused : goal.returns-in_err-gathered-clause-refused
returns-in_err-gathered-clause-refused g c =
    passed_on c.from_residual.result c.in_err-gathered.field-0.0 _ c.from_residual.ensures.1
    (⊎_elim inl (λ y. inr (
      y.0,
      subst
          (λ (v : ReduceView g.row.T.Denot g.row.R.Denot). IsTooLarge g.T.PartialOrder.times v.key (g.R.Reducer.reduces v.reducer) (g.S.Trace.held c.args.trace.now) c.args.frontier.now (g.S.Trace.stands c.args.trace.now) v.histories)
          c.self.view_is
          (λ since h taken given later s sums st ag op ps. overfull_of g.T.Ord.cmp g.met.T.Ord.total g.met.T.PartialOrder.order g.met.T.Lattice.bounds c.self.inside.key (g.R.Reducer.reduces c.self.inside.reducer) (g.met.R.Reducer.laws c.self.inside.reducer c.self.inside.key) (content-1 g c) c.args.frontier.now (hs-1 g c) c.self.invariant.2 c.known.ensures c.as_slice.result.now (waits-1 g c) y.1.0 y.1.1 since taken given (beyond-1 g c since later) (reading-1 g c h taken s sums) st ag op ps),
    )) c.in_err-gathered.ensures.refused)

module _ (g : Over) (c : goal.In_ok-gathered g) where
  abbrev hs : List (HistoryState g.row.T.Denot)
  hs = c.self.inside.histories.items

  abbrev content : List (Update g.row.T.Denot)
  content = all_content g.S.Batch.BatchReader.content c.unwrap-batches.result.now

  waits : IsWaiting c.self.inside.histories.items c.as_slice.result.now
  waits = subst (IsWaiting c.self.inside.histories.items) (sym c.as_slice.ensures) c.self.invariant.3

  readable : (h : List (Insertion g.row.T.Denot)) → g.S.Trace.stands c.args.trace.now h → IsReadable g.T.PartialOrder.times (g.S.Trace.held c.args.trace.now) (all_content g.S.Batch.BatchReader.content c.unwrap-batches.result.now) (all_updates h)
  readable h s =
      whole_is_readable g.T.PartialOrder.times (g.S.Trace.held c.args.trace.now) (g.S.Trace.start c.args.trace.now) c.upper.result.now (g.S.Trace.stands c.args.trace.now) (all_content g.S.Batch.BatchReader.content c.unwrap-batches.result.now)
      (rw c.unwrap-batches.ensures at c.through.ensures.reads) h s (c.upper.ensures.newest h s)

  -- the pending times that are due are beyond the since of the trace
  held_is : (key : List ℤ) → AreReadable g.T.PartialOrder.times (g.S.Trace.held c.args.trace.now) c.args.frontier.now (due_of key c.self.inside.histories.items)
  held_is key t m p = c.requires.held key t (subst (λ z. Member t (due_of key z)) (ap (λ s. s.histories) c.self.view_is) m) p

  -- and so beyond each earlier one
  beyond : (since : List g.row.T.Denot) → IsTrue (all_beyond g.T.PartialOrder.times since (g.S.Trace.held c.args.trace.now)) → (key : List ℤ) → AreReadable g.T.PartialOrder.times since c.args.frontier.now (due_of key c.self.inside.histories.items)
  beyond since later key = readable_from g.met.T.PartialOrder.order since (g.S.Trace.held c.args.trace.now) c.args.frontier.now (due_of key c.self.inside.histories.items) later (held_is key)

  reading : (h : List (Insertion g.row.T.Denot)) (taken : List (Update g.row.T.Denot)) → g.S.Trace.stands c.args.trace.now h
      → SumsToTaken g.T.PartialOrder.times (g.S.Trace.held c.args.trace.now) c.args.frontier.now (all_updates h) taken
      → (key : List ℤ) → ReadsAs g.T.PartialOrder.times c.args.frontier.now (due_of key c.self.inside.histories.items) (all_content g.S.Batch.BatchReader.content c.unwrap-batches.result.now) taken
  reading h taken s sums key =
      reads_as g.T.PartialOrder.times (g.S.Trace.held c.args.trace.now) c.args.frontier.now (due_of key c.self.inside.histories.items) (all_content g.S.Batch.BatchReader.content c.unwrap-batches.result.now) (all_updates h) taken
      (held_is key) (readable h s) sums

  -- the histories with what was gathered
  abbrev new-histories : List (HistoryState g.row.T.Denot)
  new-histories = all_changed c.in_ok-gathered.gathered.changes.items c.in_ok-gathered.gathered.out c.self.inside.histories.items

pub returns-clause-output : goal.returns-clause-output
returns-clause-output g c =
    subst
    (λ (v : ReduceView g.row.T.Denot g.row.R.Denot). IsOutput g.T.PartialOrder.times v.key (g.R.Reducer.reduces v.reducer) (g.S.Trace.held c.args.trace.now) c.args.frontier.now (g.S.Trace.stands c.args.trace.now) v.histories (all_changed c.in_ok-gathered.gathered.changes.items c.in_ok-gathered.gathered.out v.histories) c.in_ok-gathered.gathered.out)
    c.self.view_is
    (record {
      once = final_once g.T.Ord.cmp g.met.T.Ord.total g.met.T.PartialOrder.order g.met.T.Lattice.bounds c.self.inside.key (g.R.Reducer.reduces c.self.inside.reducer) (g.met.R.Reducer.laws c.self.inside.reducer c.self.inside.key) (content g c) c.args.frontier.now (hs g c) c.self.invariant.2 c.known.ensures c.as_slice.result.now (waits g c) c.in_ok-gathered.ensures.visited.0 c.in_ok-gathered.gathered.out c.in_ok-gathered.gathered.changes.items c.in_ok-gathered.gathered.waiting.items c.in_ok-gathered.ensures.visited.1 c.in_ok-gathered.ensures.visited.2;
      nonzero = final_nonzero g.T.Ord.cmp g.met.T.Ord.total g.met.T.PartialOrder.order g.met.T.Lattice.bounds c.self.inside.key (g.R.Reducer.reduces c.self.inside.reducer) (g.met.R.Reducer.laws c.self.inside.reducer c.self.inside.key) (content g c) c.args.frontier.now (hs g c) c.self.invariant.2 c.known.ensures c.as_slice.result.now (waits g c) c.in_ok-gathered.ensures.visited.0 c.in_ok-gathered.gathered.out c.in_ok-gathered.gathered.changes.items c.in_ok-gathered.gathered.waiting.items c.in_ok-gathered.ensures.visited.1 c.in_ok-gathered.ensures.visited.2;
      stands = λ since h taken given later s sums st. final_stands g.T.Ord.cmp g.met.T.Ord.total g.met.T.PartialOrder.order g.met.T.Lattice.bounds c.self.inside.key (g.R.Reducer.reduces c.self.inside.reducer) (g.met.R.Reducer.laws c.self.inside.reducer c.self.inside.key) (content g c) c.args.frontier.now (hs g c) c.self.invariant.2 c.known.ensures c.as_slice.result.now (waits g c) c.in_ok-gathered.ensures.visited.0 c.in_ok-gathered.gathered.out c.in_ok-gathered.gathered.changes.items c.in_ok-gathered.gathered.waiting.items c.in_ok-gathered.ensures.visited.1 c.in_ok-gathered.ensures.visited.2 (new-histories g c) refl since taken given (beyond g c since later) (reading g c h taken s sums) st;
      law = λ since h taken given later s sums st. final_law g.T.Ord.cmp g.met.T.Ord.total g.met.T.PartialOrder.order g.met.T.Lattice.bounds c.self.inside.key (g.R.Reducer.reduces c.self.inside.reducer) (g.met.R.Reducer.laws c.self.inside.reducer c.self.inside.key) (content g c) c.args.frontier.now (hs g c) c.self.invariant.2 c.known.ensures c.as_slice.result.now (waits g c) c.in_ok-gathered.ensures.visited.0 c.in_ok-gathered.gathered.out c.in_ok-gathered.gathered.changes.items c.in_ok-gathered.gathered.waiting.items c.in_ok-gathered.ensures.visited.1 c.in_ok-gathered.ensures.visited.2 (new-histories g c) refl since taken given (beyond g c since later) (reading g c h taken s sums) st;
      rest = final_rest g.T.Ord.cmp g.met.T.Ord.total g.met.T.PartialOrder.order g.met.T.Lattice.bounds c.self.inside.key (g.R.Reducer.reduces c.self.inside.reducer) (g.met.R.Reducer.laws c.self.inside.reducer c.self.inside.key) (content g c) c.args.frontier.now (hs g c) c.self.invariant.2 c.known.ensures c.as_slice.result.now (waits g c) c.in_ok-gathered.ensures.visited.0 c.in_ok-gathered.gathered.out c.in_ok-gathered.gathered.changes.items c.in_ok-gathered.gathered.waiting.items c.in_ok-gathered.ensures.visited.1 c.in_ok-gathered.ensures.visited.2 (new-histories g c) refl;
      quiet = final_quiet g.T.Ord.cmp g.met.T.Ord.total g.met.T.PartialOrder.order g.met.T.Lattice.bounds c.self.inside.key (g.R.Reducer.reduces c.self.inside.reducer) (g.met.R.Reducer.laws c.self.inside.reducer c.self.inside.key) (content g c) c.args.frontier.now (hs g c) c.self.invariant.2 c.known.ensures c.as_slice.result.now (waits g c) c.in_ok-gathered.ensures.visited.0 c.in_ok-gathered.gathered.out c.in_ok-gathered.gathered.changes.items c.in_ok-gathered.gathered.waiting.items c.in_ok-gathered.ensures.visited.1 c.in_ok-gathered.ensures.visited.2 (new-histories g c) refl;
      at = final_at g.T.Ord.cmp g.met.T.Ord.total g.met.T.PartialOrder.order g.met.T.Lattice.bounds c.self.inside.key (g.R.Reducer.reduces c.self.inside.reducer) (g.met.R.Reducer.laws c.self.inside.reducer c.self.inside.key) (content g c) c.args.frontier.now (hs g c) c.self.invariant.2 c.known.ensures c.as_slice.result.now (waits g c) c.in_ok-gathered.ensures.visited.0 c.in_ok-gathered.gathered.out c.in_ok-gathered.gathered.changes.items c.in_ok-gathered.gathered.waiting.items c.in_ok-gathered.ensures.visited.1 c.in_ok-gathered.ensures.visited.2;
      apart = final_apart g.T.Ord.cmp g.met.T.Ord.total g.met.T.PartialOrder.order g.met.T.Lattice.bounds c.self.inside.key (g.R.Reducer.reduces c.self.inside.reducer) (g.met.R.Reducer.laws c.self.inside.reducer c.self.inside.key) (content g c) c.args.frontier.now (hs g c) c.self.invariant.2 c.known.ensures c.as_slice.result.now (waits g c) c.in_ok-gathered.ensures.visited.0 c.in_ok-gathered.gathered.out c.in_ok-gathered.gathered.changes.items c.in_ok-gathered.gathered.waiting.items c.in_ok-gathered.ensures.visited.1 c.in_ok-gathered.ensures.visited.2 (new-histories g c) refl;
    })

pub returns-clause-applicable : goal.returns-clause-applicable
returns-clause-applicable g c =
    subst
    (λ (v : ReduceView g.row.T.Denot g.row.R.Denot). AreApplicable g.T.Ord.cmp v.key v.histories c.in_ok-gathered.gathered.changes.items c.in_ok-gathered.gathered.out c.in_ok-gathered.gathered.waiting.items)
    c.self.view_is
    (record {
      within = within g.T.Ord.cmp g.met.T.Ord.total g.met.T.PartialOrder.order g.met.T.Lattice.bounds c.self.inside.key (g.R.Reducer.reduces c.self.inside.reducer) (g.met.R.Reducer.laws c.self.inside.reducer c.self.inside.key) (content g c) c.args.frontier.now (hs g c) c.self.invariant.2 c.known.ensures c.as_slice.result.now (waits g c) c.in_ok-gathered.ensures.visited.0 c.in_ok-gathered.gathered.out c.in_ok-gathered.gathered.changes.items c.in_ok-gathered.gathered.waiting.items c.in_ok-gathered.ensures.visited.1 c.in_ok-gathered.ensures.visited.2;
      cut = cut g.T.Ord.cmp g.met.T.Ord.total g.met.T.PartialOrder.order g.met.T.Lattice.bounds c.self.inside.key (g.R.Reducer.reduces c.self.inside.reducer) (g.met.R.Reducer.laws c.self.inside.reducer c.self.inside.key) (content g c) c.args.frontier.now (hs g c) c.self.invariant.2 c.known.ensures c.as_slice.result.now (waits g c) c.in_ok-gathered.ensures.visited.0 c.in_ok-gathered.gathered.out c.in_ok-gathered.gathered.changes.items c.in_ok-gathered.gathered.waiting.items c.in_ok-gathered.ensures.visited.1 c.in_ok-gathered.ensures.visited.2;
      once = changed_once g.T.Ord.cmp g.met.T.Ord.total g.met.T.PartialOrder.order g.met.T.Lattice.bounds c.self.inside.key (g.R.Reducer.reduces c.self.inside.reducer) (g.met.R.Reducer.laws c.self.inside.reducer c.self.inside.key) (content g c) c.args.frontier.now (hs g c) c.self.invariant.2 c.known.ensures c.as_slice.result.now (waits g c) c.in_ok-gathered.ensures.visited.0 c.in_ok-gathered.gathered.out c.in_ok-gathered.gathered.changes.items c.in_ok-gathered.gathered.waiting.items c.in_ok-gathered.ensures.visited.1 c.in_ok-gathered.ensures.visited.2;
      known = known_after g.T.Ord.cmp g.met.T.Ord.total g.met.T.PartialOrder.order g.met.T.Lattice.bounds c.self.inside.key (g.R.Reducer.reduces c.self.inside.reducer) (g.met.R.Reducer.laws c.self.inside.reducer c.self.inside.key) (content g c) c.args.frontier.now (hs g c) c.self.invariant.2 c.known.ensures c.as_slice.result.now (waits g c) c.in_ok-gathered.ensures.visited.0 c.in_ok-gathered.gathered.out c.in_ok-gathered.gathered.changes.items c.in_ok-gathered.gathered.waiting.items c.in_ok-gathered.ensures.visited.1 c.in_ok-gathered.ensures.visited.2 (new-histories g c) refl;
      waits = waits_after g.T.Ord.cmp g.met.T.Ord.total g.met.T.PartialOrder.order g.met.T.Lattice.bounds c.self.inside.key (g.R.Reducer.reduces c.self.inside.reducer) (g.met.R.Reducer.laws c.self.inside.reducer c.self.inside.key) (content g c) c.args.frontier.now (hs g c) c.self.invariant.2 c.known.ensures c.as_slice.result.now (waits g c) c.in_ok-gathered.ensures.visited.0 c.in_ok-gathered.gathered.out c.in_ok-gathered.gathered.changes.items c.in_ok-gathered.gathered.waiting.items c.in_ok-gathered.ensures.visited.1 c.in_ok-gathered.ensures.visited.2 (new-histories g c) refl;
    })

module _ (g : Over) (c : goal.In_ok-gathered g) where
  whole : all_content g.S.Batch.BatchReader.content c.unwrap-batches.result.now ≡ g.S.Trace.content c.args.trace.now
  whole = rw c.unwrap-batches.ensures at c.through.ensures.whole c.upper.ensures.value

  all_read : c.in_ok-gathered.ensures.visited.1 ≡ all_reads g.T.PartialOrder.times c.args.frontier.now (g.S.Trace.content c.args.trace.now) c.args.self.now.histories c.args.self.now.waiting
  all_read =
      reads_are g.T.Ord.cmp g.met.T.Ord.total g.met.T.PartialOrder.order g.met.T.Lattice.bounds c.self.inside.key (g.R.Reducer.reduces c.self.inside.reducer) (g.met.R.Reducer.laws c.self.inside.reducer c.self.inside.key) (content g c) c.args.frontier.now (hs g c) c.self.invariant.2 c.known.ensures c.as_slice.result.now (waits g c) c.in_ok-gathered.ensures.visited.0 c.in_ok-gathered.gathered.out c.in_ok-gathered.gathered.changes.items c.in_ok-gathered.gathered.waiting.items c.in_ok-gathered.ensures.visited.1 c.in_ok-gathered.ensures.visited.2 (new-histories g c) refl
      ∙ (ap (λ z. all_reads g.T.PartialOrder.times c.args.frontier.now z c.self.inside.histories.items c.as_slice.result.now) whole
      ∙ (ap (λ z. all_reads g.T.PartialOrder.times c.args.frontier.now (g.S.Trace.content c.args.trace.now) c.self.inside.histories.items z) (c.as_slice.ensures ∙ ap (λ s. s.waiting) c.self.view_is)
      ∙ ap (λ z. all_reads g.T.PartialOrder.times c.args.frontier.now (g.S.Trace.content c.args.trace.now) z c.args.self.now.waiting) (ap (λ s. s.histories) c.self.view_is)))

  looked_was : c.self.inside.looked ≡ c.args.self.now.looked
  looked_was = ap (λ s. s.looked) c.self.view_is

pub returns-clause-looked : goal.returns-clause-looked
returns-clause-looked g c =
    let a = all_read g c in
    let b = looked_was g c in
    let d = c.in_ok-gathered.ensures.visited.3 in
    omega (arith, a, b, d)

pub returns-clause-counted : goal.returns-clause-counted
returns-clause-counted g c =
    let a = all_read g c in
    let b = looked_was g c in
    let d = c.in_ok-gathered.ensures.visited.4 in
    omega (arith, a, b, d)
