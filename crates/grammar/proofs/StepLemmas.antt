-- What holds of the steps of an accepted line.
use Rattle.std.proofs.Common.{◌≡◌, ℕ, Bool, true, false, not, cond, IsTrue, List, [], ◌∷◌, ◌++◌, get_or, Option, Some, None, Result, Ok, Err, is_some, refl, sym, ap, ◌∙◌, codes}
use Rattle.std.specs.Str.{bytes_eq}
use Rattle.std.proofs.lemmas.List.Quantifiers.{position-Some}
use Rattle.std.proofs.lemmas.Slice.Eq.{bytes_eq-Decides}
use Rattle.std.proofs.lemmas.Option.{unwrap_or-slice_get}
use Rattle.update.specs.declared.refusal.Refusal.{Refusal}
use Rattle.update.specs.declared.refusal.Refusal.TheVariants.{UnknownName, DuplicateName, BadName, BadOrder, UnknownCommand}
use Rattle.plan.specs.Rules.{is_readable, node_refusal}
use Rattle.plan.specs.declared.node.Node.{Node}
use Rattle.grammar.specs.declared.keyword.Keyword.{Keyword}
use Rattle.grammar.specs.declared.keyword.Keyword.TheVariants as keyword
use Rattle.grammar.specs.Commands.{is_input_of, is_view_of}
use Rattle.grammar.specs.Names.{is_name}
use Rattle.grammar.specs.Outcomes.{◌>>=◌, or_refused, unless}
use Rattle.grammar.specs.ParseStates.{ParseState, number_of_name, if_passes, used_name, source, input, view, new_name, plan_with}
use Rattle.grammar.specs.Declarations.{with_node}
use Rattle.grammar.specs.Lines.{keyword_of, is_declaring, opening}
use Rattle.grammar.specs.ScriptModels.{name_at}

-- an accepted value, with its types written out
abbrev pub accepted : {A : Type 0} → A → Result A Refusal
accepted x = Ok x

-- a refusal, with its types written out
abbrev pub refused : {A : Type 0} → Refusal → Result A Refusal
refused refusal = Err refusal

-- takes an accepted line apart at its first step
pub bind_ok : {A B : Type 0} (r : Result A Refusal) (f : A → Result B Refusal) (y : B) → (r >>= f) ≡ Ok y → (x : A) × (r ≡ Ok x) × (f x ≡ Ok y)
bind_ok (Ok x) f y e = (x, refl, e)
bind_ok (Err refusal) f y e = absurd cc

-- finds the value of a step that was not refused
pub or_refused_ok : {A : Type 0} (refusal : Refusal) (o : Option A) (x : A) → or_refused refusal o ≡ Ok x → o ≡ Some x
or_refused_ok refusal (Some y) x e = cc
or_refused_ok refusal None x e = absurd cc

-- takes an accepted line apart at a test that it must pass
pub guard_ok : {A : Type 0} (b : Bool) (r : Result A Refusal) (refusal : Refusal) (x : A) → cond b r (Err refusal) ≡ Ok x → (b ≡ true) × (r ≡ Ok x)
guard_ok true r refusal x e = (refl, e)
guard_ok false r refusal x e = absurd cc

-- takes an accepted line apart at a test that it must fail
pub guard_not_ok : {A : Type 0} (b : Bool) (r : Result A Refusal) (refusal : Refusal) (x : A) → cond b (Err refusal) r ≡ Ok x → (b ≡ false) × (r ≡ Ok x)
guard_not_ok true r refusal x e = absurd cc
guard_not_ok false r refusal x e = (refl, e)

-- strips Ok from both sides
pub same_ok : {A : Type 0} (x y : A) → accepted x ≡ accepted y → x ≡ y
same_ok x y e = cc

if_passes_some : (test : ℕ → Bool) (o : Option ℕ) (n : ℕ) → if_passes test o ≡ Some n → (o ≡ Some n) × IsTrue (test n)
if_passes_some test None n e = absurd cc
if_passes_some test (Some m) n e = by (test m) refl e
  where
    by : (b : Bool) → test m ≡ b → cond b (Some m) None ≡ Some n → (Some m ≡ Some n) × IsTrue (test n)
    by true t h = (h, (let same : m ≡ n = cc in sym (ap test same) ∙ t))
    by false t h = absurd cc

-- a word that names a node is the name of that node
pub place_name : (k : ParseState) (word : List ℕ) (n : ℕ) → number_of_name k word ≡ Some n → word ≡ name_at k.names n
place_name k word n e =
    let found = position-Some (bytes_eq word) k.names n [] e in
    (bytes_eq-Decides word (get_or k.names n [])).0 found.1 ∙ sym (unwrap_or-slice_get k.names n [])

pub record Uses (test : ℕ → Bool) (k : ParseState) (word : List ℕ) (n : ℕ) : Type 0 where
  pub name_is : word ≡ name_at k.names n
  pub passes : IsTrue (test n)

used : (test : ℕ → Bool) (k : ParseState) (word : List ℕ) (n : ℕ) → used_name test k word ≡ Ok n → Uses test k word n
used test k word n e =
    let h = if_passes_some test (number_of_name k word) n (or_refused_ok UnknownName (if_passes test (number_of_name k word)) n e) in
    record { name_is = place_name k word n h.0; passes = h.1 }

-- spells the name of a source
pub source_ok : (k : ParseState) (word : List ℕ) (n : ℕ) → source k word ≡ Ok n → Uses (is_readable k.plan) k word n
unfolding source
source_ok k word n e = used (is_readable k.plan) k word n e

-- spells the name of an input
pub input_ok : (k : ParseState) (word : List ℕ) (n : ℕ) → input k word ≡ Ok n → Uses (is_input_of k.plan) k word n
unfolding input
input_ok k word n e = used (is_input_of k.plan) k word n e

-- spells the name of a view
pub view_ok : (k : ParseState) (word : List ℕ) (n : ℕ) → view k word ≡ Ok n → Uses (is_view_of k.plan) k word n
unfolding view
view_ok k word n e = used (is_view_of k.plan) k word n e

none_from_is_some : {A : Type 0} (o : Option A) → is_some o ≡ false → o ≡ None
none_from_is_some None e = refl
none_from_is_some (Some x) e = absurd cc

pub record NewName (k : ParseState) (word name : List ℕ) : Type 0 where
  pub name_is : name ≡ word
  pub is_formed : IsTrue (is_name word)
  pub is_free : number_of_name k word ≡ None

-- gives what Declares needs of a new name
pub new_name_ok : (k : ParseState) (word name : List ℕ) → new_name k word ≡ Ok name → NewName k word name
unfolding new_name
new_name_ok k word name e =
    let formed = guard_ok (is_name word) (cond (is_some (number_of_name k word)) (Err DuplicateName) (Ok word)) BadName name e in
    let free = guard_not_ok (is_some (number_of_name k word)) (Ok word) DuplicateName name formed.1 in
    record { name_is = sym (same_ok word name free.1); is_formed = formed.0; is_free = none_from_is_some (number_of_name k word) free.0 }

unless_ok : {A : Type 0} (o : Option Refusal) (x y : A) → unless o x ≡ Ok y → (o ≡ None) × (y ≡ x)
unless_ok None x y e = (refl, sym (same_ok x y e))
unless_ok (Some refusal) x y e = absurd cc

-- gives what Declares needs of an added node
pub with_node_ok : (k : ParseState) (name : List ℕ) (node : Node) (next : ParseState) → with_node k name node ≡ Ok next
    → (node_refusal k.plan node ≡ None) × (next ≡ record k { names = k.names ++ name ∷ []; plan = k.plan ++ node ∷ [] })
unfolding with_node
with_node_ok k name node next e =
    let added = bind_ok (plan_with k.plan node) (λ plan. Ok (record k { names = k.names ++ name ∷ []; plan = plan })) next e in
    let h = unless_ok (node_refusal k.plan node) (k.plan ++ node ∷ []) added.0 added.1 in
    (h.0, sym (same_ok _ _ added.2) ∙ ap (λ (p : List Node). record { names = k.names ++ name ∷ []; plan = p; started = k.started; commands = k.commands }) h.1)

-- the word that spells a keyword
abbrev pub keyword_text : Keyword → List ℕ
keyword_text keyword.Input = codes "input"
keyword_text keyword.Node = codes "node"
keyword_text keyword.View = codes "view"
keyword_text keyword.Start = codes "start"
keyword_text keyword.Change = codes "change"
keyword_text keyword.Advance = codes "advance"
keyword_text keyword.Close = codes "close"
keyword_text keyword.Allow = codes "allow"
keyword_text keyword.Read = codes "read"
keyword_text keyword.Changes = codes "changes"
keyword_text keyword.Frontier = codes "frontier"

-- goes through a list of alternatives: the first one whose word this is, or one of the others
pub one_of : {A : Type 0} (text_of : A → List ℕ) (word text : List ℕ) (first found : A) (more : Option A) → cond (bytes_eq word text) (Some first) more ≡ Some found → text_of first ≡ text → (more ≡ Some found → word ≡ text_of found) → word ≡ text_of found
one_of text_of word text first found more e t rest = by (bytes_eq word text) refl e
  where
    by : (b : Bool) → bytes_eq word text ≡ b → cond b (Some first) more ≡ Some found → word ≡ text_of found
    by true same h = let is : first ≡ found = cc in (bytes_eq-Decides word text).0 same ∙ sym t ∙ ap text_of is
    by false other h = rest h

-- a word that is a keyword is the word that spells it
pub keyword_ok : (word : List ℕ) (found : Keyword) → keyword_of word ≡ Some found → word ≡ keyword_text found
keyword_ok word found e =
    one_of keyword_text word (codes "input") keyword.Input found _ e refl (λ e.
    one_of keyword_text word (codes "node") keyword.Node found _ e refl (λ e.
    one_of keyword_text word (codes "view") keyword.View found _ e refl (λ e.
    one_of keyword_text word (codes "start") keyword.Start found _ e refl (λ e.
    one_of keyword_text word (codes "change") keyword.Change found _ e refl (λ e.
    one_of keyword_text word (codes "advance") keyword.Advance found _ e refl (λ e.
    one_of keyword_text word (codes "close") keyword.Close found _ e refl (λ e.
    one_of keyword_text word (codes "allow") keyword.Allow found _ e refl (λ e.
    one_of keyword_text word (codes "read") keyword.Read found _ e refl (λ e.
    one_of keyword_text word (codes "changes") keyword.Changes found _ e refl (λ e.
    one_of keyword_text word (codes "frontier") keyword.Frontier found None e refl (λ e. absurd cc)))))))))))

-- spells the keyword of an accepted line, and says on which side of `start` the line stands
pub opening_ok : (k : ParseState) (word : List ℕ) (found : Keyword) → opening k word ≡ Ok found → (word ≡ keyword_text found) × (cond (is_declaring found) k.started (not k.started) ≡ false)
unfolding opening
opening_ok k word found e =
    let a = bind_ok (or_refused UnknownCommand (keyword_of word)) (λ keyword. cond (cond (is_declaring keyword) k.started (not k.started)) (Err BadOrder) (Ok keyword)) found e in
    let b = guard_not_ok (cond (is_declaring a.0) k.started (not k.started)) (Ok a.0) BadOrder found a.2 in
    let same = same_ok a.0 found b.1 in
    (keyword_ok word found (or_refused_ok UnknownCommand (keyword_of word) a.0 a.1 ∙ ap (λ (w : Keyword). Some w) same), ap (λ (w : Keyword). cond (is_declaring w) k.started (not k.started)) (sym same) ∙ b.0)
