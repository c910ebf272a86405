use Rattle.std.proofs.Common.{◌≡◌, ℕ, Some, None, Bool, true, false, inl, inr, List, [], Result, Ok, Err, refl, sym, subst, Option, position, IsTrue}
use Rattle.std.specs.Str.{bytes_eq}
use Rattle.lattice.specs.declared.product.Pair.{Pair}
use Rattle.update.specs.Bags.{Entry}
use Rattle.update.specs.declared.refusal.Refusal.{Refusal}
use Rattle.grammar.specs.Commands.{is_view_of}
use Rattle.grammar.specs.ParseStates.{if_passes}
use Rattle.grammar.specs.ScriptModels.{ScriptModel, view_named}
use Rattle.script.specs.Reads.{FindsLastRows}
use Rattle.bitview.specs.Comparisons.{AreCompared, IsAnswered}
use Rattle.bitview.proofs.comparisons.read_and_compare.Goals as goal

-- a number that passed a test passes it
passed : (test : ℕ → Bool) (found : Option ℕ) (n : ℕ) → if_passes test found ≡ Some n → IsTrue (test n)
passed test None n e = absurd cc
passed test (Some m) n e = by (test m) refl
  where
    by : (b : Bool) → test m ≡ b → IsTrue (test n)
    by true is = let same : m ≡ n = cc in subst (λ (k : ℕ). IsTrue (test k)) same (subst IsTrue (sym is) refl)
    by false is = absurd cc

-- what two reads of a view have found is an answer
module _ (took : List ℕ → ℕ → Type 0) (name : List ℕ) (first second : Pair ℕ ℕ) (t : ScriptModel) (view : ℕ) (named : view_named t name ≡ Some view) where
  answered : (before after : Result (List Entry) Refusal) (status : ℕ) → FindsLastRows t view first before → FindsLastRows t view second after → AreCompared took before after status → IsAnswered took name first second t status
  answered (Ok before) (Ok after) status a b c = inl (before, after, (view, named, a, b), c)
  answered (Ok before) (Err refusal) status a b c = inr (inr (inr (c.0, inr (view, refusal, named, inr b), c.1)))
  answered (Err refusal) after status a b c = inr (inr (inr (c.0, inr (view, refusal, named, inl a), c.1)))

pub read_twice-requires-clause-view : goal.read_twice-requires-clause-view
unfolding view_named
read_twice-requires-clause-view g c κs within = passed (is_view_of c.args.script.now.plan) (position (bytes_eq c.args.comparison.view.now) c.args.script.now.names) c.args.view c.requires

pub returns-in-Ok : goal.returns-in-Ok
returns-in-Ok g c =
    answered _ c.args.comparison.view.now c.args.comparison.first c.args.comparison.second c.args.script.now c.args.view c.requires
    _ _ c.compare_rows.result c.in-Ok.ensures.first c.in-Ok.ensures.second c.compare_rows.ensures
