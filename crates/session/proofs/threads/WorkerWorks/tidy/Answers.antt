use Rattle.std.proofs.lemmas.Result.{IfErr-weaker}
use Rattle.session.proofs.ThreadLemmas.{tidy_ends}
use Rattle.session.proofs.threads.WorkerWorks.tidy.Goals as goal

pub returns : goal.returns
returns g c = IfErr-weaker c.tidy.result _ _ (λ refusal h. tidy_ends g.T.PartialOrder.times g.T.Ord.cmp c.args.self.now c.tidy.new.self refusal h) c.tidy.ensures.refused
