-- The first board, on which nothing has happened, from the lists that the code makes.
use Rattle.std.proofs.Common.{◌≡◌, ℕ, zero, suc, ◌<◌, List, [], ◌∷◌, length, get_or, replicate, ap, ◌∙◌, Option, None, cond, arith}
use Rattle.std.proofs.lemmas.List.{length-replicate, length-map}
use Rattle.plan.specs.Nodes.{is_input}
use Rattle.outstanding.specs.Loads.{no_lot, first_stations}
use Rattle.histories.specs.declared.event.Event.{Event}
use Rattle.histories.specs.declared.event.Event.TheVariants.{Look}
use Rattle.views.specs.Views.{ViewState}
use Rattle.histories.specs.Histories.Dataflows.{Dataflow, IsDataflow}
use Rattle.outstanding.specs.Inputs.{first_inputs}
use Rattle.accounts.specs.Accounts.{AccountState}
use Rattle.machine.specs.Boards.{IsBoard, first_board}

module _ {T : Type 0} (least : T) (p : Dataflow) (last : Event T) (look : last ≡ Look 0) (accounts : AccountState T) (hand : List (Option ℕ)) (accepted : List ℕ) (views : List (ViewState T))
    (n : ℕ) (a : accounts ≡ record { nodes = p.nodes; stations = first_stations (length p.nodes) p.workers; inputs = first_inputs least p.nodes })
    (f : hand ≡ replicate p.workers None) (g : accepted ≡ replicate n 0) (h : n ≡ length p.nodes)
    (i : views ≡ replicate n (record { since = least ∷ []; captured = [] })) where
  -- the accounts and the lists that the code makes are those of the first board
  pub first_made : record { dataflow = record { nodes = accounts.nodes; workers = p.workers }; stations = accounts.stations; inputs = accounts.inputs; hand = hand; accepted = accepted; views = views; last = last } ≡ first_board least p
  first_made =
      let none : accepted ≡ replicate (length p.nodes) 0 = g ∙ ap (λ n. replicate n 0) h in
      let shown : views ≡ replicate (length p.nodes) (record { since = least ∷ []; captured = [] }) = i ∙ ap (λ n. replicate n (record { since = least ∷ []; captured = [] })) h in
      λ j. record { dataflow = record { nodes = (a j).nodes; workers = p.workers }; stations = (a j).stations; inputs = (a j).inputs; hand = f j; accepted = none j; views = shown j; last = look j }

-- the first board keeps the invariant of boards
pub first_is_board : {T : Type 0} (least : T) (p : Dataflow) → IsDataflow p → IsBoard (first_board least p)
first_is_board {T} least p is = record { dataflow = is; stations = length-replicate (length p.nodes) (replicate p.workers (no_lot {T = T})); rows = λ n l. rows (length p.nodes) n l; hand = length-replicate p.workers None; accepted = length-replicate (length p.nodes) 0; views = length-replicate (length p.nodes) (record { since = least ∷ []; captured = [] }); inputs = length-map p.nodes (λ node. cond (is_input node) (least ∷ []) []) }
  where
    rows : (nodes n : ℕ) → n < nodes → length (get_or (replicate nodes (replicate p.workers (no_lot {T = T}))) n []) ≡ p.workers
    rows zero n l = absurd (omega arith)
    rows (suc nodes) zero l = length-replicate p.workers (no_lot {T = T})
    rows (suc nodes) (suc n) l = rows nodes n (omega arith)
