use Rattle.std.proofs.Common.{◌≡◌, ◌≢◌, ◌⊎◌, inl, inr, [], sym, ◌∙◌, arith, rules}
use Rattle.std.proofs.lemmas.Bool.{true≢false}
use Rattle.std.proofs.lemmas.Bool.Decides.{nat_tests}
use Rattle.std.specs.Cmp.Rules.{signed_items}
use Rattle.update.specs.declared.change.Update.{Update}
use Rattle.update.specs.Bags.{same_row}
use Rattle.batch.proofs.HandLemmas.{say_of, say_more, none_of_length}
use Rattle.batch.proofs.merged_rows.MergedRows.has_row.Goals as goal

pub returns-then-not-is_empty-clause-yes : goal.returns-then-not-is_empty-clause-yes
returns-then-not-is_empty-clause-yes g c e =
    say_more (λ (u : Update g.row.T.Denot). c.has_row.result ≡ same_row u.row c.columns.result.now) (λ u. u.row ≡ c.args.self.now.row) c.args.source.now c.args.place
    (λ u h. (signed_items u.row c.args.self.now.row).0 (search rules))
    c.has_row.ensures

pub returns-then-not-is_empty-clause-no : goal.returns-then-not-is_empty-clause-no
returns-then-not-is_empty-clause-no g c e =
    say_more (λ (u : Update g.row.T.Denot). c.has_row.result ≡ same_row u.row c.columns.result.now) (λ u. (c.args.self.now.in_hand.items ≡ []) ⊎ (u.row ≢ c.args.self.now.row)) c.args.source.now c.args.place
    (λ u h. inr (λ d. true≢false (sym ((signed_items u.row c.args.self.now.row).1 d) ∙ (search rules))))
    c.has_row.ensures

pub returns-else-not-is_empty-clause-no : goal.returns-else-not-is_empty-clause-no
returns-else-not-is_empty-clause-no g c e =
    say_of (λ (u : Update g.row.T.Denot). (c.args.self.now.in_hand.items ≡ []) ⊎ (u.row ≢ c.args.self.now.row)) c.args.source.now c.args.place c.requires
    (λ u. inl (none_of_length c.args.self.now.in_hand.items (grind (arith, nat_tests))))
