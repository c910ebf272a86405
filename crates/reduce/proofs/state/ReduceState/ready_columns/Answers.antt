use Rattle.std.proofs.Common.{ap, subst, inl, inr, ⊎_elim}
use Rattle.reduce.specs.Histories.{ReduceView}
use Rattle.reduce.specs.Outputs.{IsOutput, IsTooLarge}
use Rattle.correction.proofs.ResultLemmas.{passed_on}
use Rattle.reduce.proofs.OutputLemmas.{output_of}
use Rattle.reduce.proofs.state.ReduceState.ready_columns.Given.{Over}
use Rattle.reduce.proofs.state.ReduceState.ready_columns.Goals as goal

pub returns-in_err-gathered-clause-refused : goal.returns-in_err-gathered-clause-refused
returns-in_err-gathered-clause-refused g c =
    passed_on c.from_residual.result c.in_err-gathered.field-0.0 _ c.from_residual.ensures.1
    (⊎_elim inl (λ y. inr (
      y.0,
      subst
          (λ (v : ReduceView g.row.T.Denot g.row.R.Denot). IsTooLarge g.T.PartialOrder.times v.key (g.R.Reducer.reduces v.reducer) (g.S.Trace.held c.args.trace.now) c.args.frontier.now (g.S.Trace.stands c.args.trace.now) v.histories)
          c.fold.ensures
          y.1,
    )) c.in_err-gathered.ensures.refused)

module _ (g : Over) (c : goal.In_ok-out g) where
  -- what was gathered is put in place, and it is what is given
  output : IsOutput g.T.PartialOrder.times c.args.self.now.key (g.R.Reducer.reduces c.args.self.now.reducer) (g.S.Trace.held c.args.trace.now) c.args.frontier.now (g.S.Trace.stands c.args.trace.now) c.args.self.now.histories c.commit.new.self.histories c.in_ok-out.out
  output =
      output_of g.T.PartialOrder.times g.R.Reducer.reduces (g.S.Trace.held c.args.trace.now) c.args.frontier.now (g.S.Trace.stands c.args.trace.now) c.args.self.now c.fold.new.self c.commit.new.self _ c.in_ok-gathered.gathered.out c.in_ok-out.out
      c.fold.ensures (ap (λ (v : ReduceView g.row.T.Denot g.row.R.Denot). v.histories) c.in_ok-out.ensures.put) c.in_ok-out.ensures.out c.in_ok-gathered.ensures.output

pub returns-clause-stands : goal.returns-clause-stands
returns-clause-stands g c = (output g c).stands

pub returns-clause-law : goal.returns-clause-law
returns-clause-law g c = (output g c).law

pub returns-clause-rest : goal.returns-clause-rest
returns-clause-rest g c = (output g c).rest

pub returns-clause-quiet : goal.returns-clause-quiet
returns-clause-quiet g c = (output g c).quiet

pub returns-clause-at : goal.returns-clause-at
returns-clause-at g c = (output g c).at

pub returns-clause-apart : goal.returns-clause-apart
returns-clause-apart g c = (output g c).apart
