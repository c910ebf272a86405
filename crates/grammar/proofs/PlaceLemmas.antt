-- The index of an element in a mapped list, and the effect of a new name on the list of names.
use Rattle.std.proofs.Common.{◌≡◌, ℕ, ◌+◌, Bool, true, false, not, ◌||◌, ◌++◌, ◌≤◌, cond, ltb, ltb-false, arith, sym, string_bytes, Global, String, List, [], ◌∷◌, length, map, Option, Some, None, Ok, Err, refl, ap, ◌∙◌}
use Rattle.std.specs.List.{position, position_or_len, list_any}
use Rattle.std.specs.Str.{bytes_eq}
use Rattle.std.specs.String.{string_eq}
use Rattle.std.proofs.lemmas.List.{length-map, map_push}
use Rattle.indexmap.specs.IndexSet.{insert_key}
use Rattle.plan.specs.declared.node.Node.{Node}
use Rattle.update.specs.Refusals.{IsRefusalBy}
use Rattle.update.specs.declared.refusal.Refusal.{Refusal}
use Rattle.grammar.specs.declared.fault.LineError.{LineError}
use Rattle.grammar.specs.declared.fault.LineError.TheVariants as error
use Rattle.grammar.specs.Faults.{IsErrorOf}
use Rattle.grammar.specs.Outcomes.{◌>>=◌, unless, Fails}
use Rattle.grammar.specs.ParseStates.{ParseState, plan_with}
use Rattle.grammar.specs.Declarations.{with_node}
use Rattle.grammar.proofs.TextLemmas.{none_is}

position_or_len-map : {A B : Type 0} (f : A → B) (p : B → Bool) (xs : List A) → position_or_len p (map f xs) ≡ position_or_len (λ x. p (f x)) xs
position_or_len-map f p [] = refl
position_or_len-map f p (x ∷ xs) = ap (λ (n : ℕ). cond (not (p (f x))) (1 + n) 0) (position_or_len-map f p xs)

-- carries a search among strings over to one among their bytes
pub position-map : {A B : Type 0} (f : A → B) (p : B → Bool) (xs : List A) → position p (map f xs) ≡ position (λ x. p (f x)) xs
position-map f p xs = ap (λ (n : ℕ). cond (ltb n (length (map f xs))) (Some n) None) (position_or_len-map f p xs) ∙ ap (λ (n : ℕ). cond (ltb (position_or_len (λ x. p (f x)) xs) n) (Some (position_or_len (λ x. p (f x)) xs)) None) (length-map xs f)

none_any : {A : Type 0} (p : A → Bool) (xs : List A) → length xs ≤ position_or_len p xs → list_any p xs ≡ false
none_any p [] h = refl
none_any p (x ∷ xs) h = elim (p x) as (λ b. length (x ∷ xs) ≤ cond (not b) (1 + position_or_len p xs) 0 → (b || list_any p xs) ≡ false) [ true ↦ (λ k. absurd (omega arith)) | false ↦ (λ k. none_any p xs (omega arith)) ] h

lacking : {A : Type 0} (p : A → Bool) (xs : List A) → position p xs ≡ None → list_any p xs ≡ false
lacking p xs e = none_any p xs (ltb-false _ _ (none_is (ltb (position_or_len p xs) (length xs)) (position_or_len p xs) e))

-- a free name is appended to the names
pub added_name : (keys : List (String Global)) (name : String Global) → position (bytes_eq (string_bytes name)) (map string_bytes keys) ≡ None → map string_bytes (insert_key string_eq keys name) ≡ map string_bytes keys ++ string_bytes name ∷ []
added_name keys name e =
    let none : list_any (string_eq name) keys ≡ false = lacking (string_eq name) keys (sym (position-map string_bytes (bytes_eq (string_bytes name)) keys) ∙ e) in
    ap (λ b. map string_bytes (cond b keys (keys ++ name ∷ []))) none ∙ map_push string_bytes keys name

-- the parse state after a node that the plan accepts, under an added name
pub node_added : (k : ParseState) (name : List ℕ) (node : Node) (plan : List Node) (names : List (List ℕ)) → plan_with k.plan node ≡ Ok plan → names ≡ k.names ++ name ∷ []
    → with_node k name node ≡ Ok (record { names = names; plan = plan; started = k.started; commands = k.commands })
unfolding with_node
node_added k name node plan names e f =
    ap (λ r. r >>= λ (plan : List Node). Ok (record { names = k.names ++ name ∷ []; plan = plan; started = k.started; commands = k.commands })) e
    ∙ ap (λ (names : List (List ℕ)). Ok (record { names = names; plan = plan; started = k.started; commands = k.commands })) (sym f)

-- if the plan refuses a node, the line is refused in the same way
pub node_refused : {A : Type 0} (o : Option Refusal) (refusal : Refusal) (e : LineError) (x : A) → IsRefusalBy o refusal → IsErrorOf refusal e → Fails e (unless o x)
node_refused o refusal error.Memory x by is = tt
node_refused None refusal (error.Refused other) x by is = absurd (is.1 by)
node_refused (Some own) refusal (error.Refused other) x by is = ap (λ (r : Refusal). Err r) (sym by ∙ sym is.0)
