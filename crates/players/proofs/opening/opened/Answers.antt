use Rattle.std.proofs.Common.{rules, ◌≡◌, ◌∙◌, ◌∷◌, ◌++◌, [], List, Some, length, refl, ap}
use Rattle.std.specs.Prelude.{option_to_list, slice_get}
use Rattle.shared_board.specs.Tenures.{opening_in}
use Rattle.players.proofs.opening.opened.Goals as goal

-- the last of a list
slice_get-seam : {A : Type 0} (ys : List A) (x : A) → slice_get (ys ++ x ∷ []) (length ys) ≡ Some x
slice_get-seam [] x = refl
slice_get-seam (y ∷ ys) x = slice_get-seam ys x

pub new-requires : goal.new-requires
new-requires g c =
    let before = c.pop.new.self.items in
    let client = c.in-Some.client in
    let all : c.in_ok-clients.clients.items ≡ before ++ client ∷ [] = c.pop.ensures.items ∙ ap (λ o. before ++ option_to_list o) c.in-Some.is in
    let there : slice_get c.in_ok-clients.clients.items (length before) ≡ Some client = ap (λ xs. slice_get xs (length before)) all ∙ slice_get-seam before client in
    let first = c.in_ok-clients.ensures.opened.each_client (length before) client there in
    let plan : c.args.plan.now ≡ c.in_ok-clone.field-0 = search rules in
    record { knows = ap (λ es. (opening_in es).dataflow.nodes) first.seen ∙ plan }
