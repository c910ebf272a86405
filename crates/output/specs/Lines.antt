-- The lines that a run prints.
use Rattle.std.specs.Prelude.{ℕ, List, [], ◌∷◌, ◌++◌, length, codes, decimal}
use Rattle.std.specs.List.{flat_map}
use Rattle.lattice.specs.declared.product.Pair.{Pair}
use Rattle.update.specs.Bags.{Entry}
use Rattle.update.specs.Refusals.{code_of}
use Rattle.update.specs.Text.{bag_text, entry_text}
use Rattle.update.specs.Updates.{entry}
use Rattle.update.specs.declared.change.Update.{Update}
use Rattle.update.specs.declared.refusal.Refusal.{Refusal}

-- refused LINE CODE
abbrev pub refused_text : ℕ → Refusal → List ℕ
refused_text line refusal = codes "refused "
    ++ (decimal line ++ (codes " " ++ (decimal (code_of refusal) ++ 10 ∷ [])))

-- read VIEW V S N
abbrev pub read_text : List ℕ → Pair ℕ ℕ → ℕ → List ℕ
read_text view t rows = codes "read "
    ++ (view ++ (codes " " ++ (decimal t.first ++ (codes " " ++ (decimal t.second ++ (codes " " ++ (decimal rows ++ 10 ∷ [])))))))

-- the header, and a line for each row
abbrev pub rows_text : List ℕ → Pair ℕ ℕ → List Entry → List ℕ
rows_text view t rows = read_text view t (length rows) ++ bag_text rows

-- V S
abbrev pub time_text : Pair ℕ ℕ → List ℕ
time_text t = decimal t.first ++ (codes " " ++ decimal t.second)

-- WORD VIEW N
abbrev pub count_text : List ℕ → List ℕ → ℕ → List ℕ
count_text word view lines = word
    ++ (codes " " ++ (view ++ (codes " " ++ (decimal lines ++ 10 ∷ []))))

-- V S DIFF C ..
abbrev pub update_text : Update (Pair ℕ ℕ) → List ℕ
update_text u = time_text u.time ++ (codes " " ++ entry_text (entry u))

-- changes VIEW N, and a line for each update
abbrev pub changes_text : List ℕ → List (Update (Pair ℕ ℕ)) → List ℕ
changes_text view us = count_text (codes "changes") view (length us) ++ flat_map update_text us

-- V S, on a line of its own
abbrev pub element_text : Pair ℕ ℕ → List ℕ
element_text t = time_text t ++ 10 ∷ []

-- frontier VIEW N, and a line for each of its elements
abbrev pub frontier_text : List ℕ → List (Pair ℕ ℕ) → List ℕ
frontier_text view ts = count_text (codes "frontier") view (length ts) ++ flat_map element_text ts
