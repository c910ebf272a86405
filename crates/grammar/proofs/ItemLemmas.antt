-- Words that are items, comparisons or tests are the printed text of these.
use Rattle.std.proofs.Common.{◌≡◌, ℕ, ◌<◌, Bool, true, false, cond, eqb, eqb-true, get_or, drop, List, [], ◌∷◌, map, Option, Some, None, Ok, refl, ap, ◌∙◌, arith, codes}
use Rattle.std.specs.Option.{option_map}
use Rattle.row.specs.Text.{item_text, cmp_text}
use Rattle.row.specs.declared.projection.Item.{Item}
use Rattle.row.specs.declared.projection.Item.TheVariants.{Column, Constant}
use Rattle.row.specs.declared.test.Cmp.{Cmp}
use Rattle.row.specs.declared.test.Cmp.TheVariants.{Eq, Ne, Lt, Le, Gt, Ge}
use Rattle.row.specs.declared.test.Test.{Test}
use Rattle.update.specs.declared.refusal.Refusal.TheVariants.{UnknownCommand, BadNumber}
use Rattle.grammar.specs.Numbers.{whole_of, signed_of}
use Rattle.grammar.specs.Words.{each}
use Rattle.grammar.specs.Items.{item_of, item, items, comparison_of, comparison, filter_test}
use Rattle.grammar.specs.Outcomes.{◌>>=◌}
use Rattle.grammar.specs.Spelling.{test_words}
use Rattle.grammar.proofs.DecimalLemmas.{whole_text, signed_text}
use Rattle.grammar.proofs.StepLemmas.{same_ok, bind_ok, or_refused_ok, one_of}
use Rattle.grammar.proofs.WordLemmas.{each_text}

mapped : {A B : Type 0} (f : A → B) (o : Option A) (y : B) → option_map f o ≡ Some y → (x : A) × (o ≡ Some x) × (f x ≡ y)
mapped f (Some x) y e = (x, refl, cc)
mapped f None y e = absurd cc

opened : (word : List ℕ) (first : ℕ) → 0 < first → get_or word 0 0 ≡ first → word ≡ first ∷ drop 1 word
opened [] first some e = absurd (omega (arith, some, e))
opened (x ∷ word) first some e = ap (λ (y : ℕ). y ∷ word) e

item_of_text : (word : List ℕ) (found : Item) → item_of word ≡ Some found → word ≡ item_text found
item_of_text word found e = by (eqb (get_or word 0 0) 0x63) (eqb (get_or word 0 0) 0x3d) refl refl e
  where
    by : (column constant : Bool) → eqb (get_or word 0 0) 0x63 ≡ column → eqb (get_or word 0 0) 0x3d ≡ constant
        → cond column (option_map (λ n. Column n) (whole_of (drop 1 word))) (cond constant (option_map (λ z. Constant z) (signed_of (drop 1 word))) None) ≡ Some found → word ≡ item_text found
    by true constant c d h =
        let m = mapped (λ n. Column n) (whole_of (drop 1 word)) found h in
        opened word 0x63 (omega arith) (eqb-true _ _ c) ∙ ap (λ (ds : List ℕ). 0x63 ∷ ds) (whole_text (drop 1 word) m.0 m.1) ∙ ap item_text m.2
    by false true c d h =
        let m = mapped (λ z. Constant z) (signed_of (drop 1 word)) found h in
        opened word 0x3d (omega arith) (eqb-true _ _ d) ∙ ap (λ (ds : List ℕ). 0x3d ∷ ds) (signed_text (drop 1 word) m.0 m.1) ∙ ap item_text m.2
    by false false c d h = absurd cc

-- spells one item of a line
pub item_ok : (word : List ℕ) (found : Item) → item word ≡ Ok found → word ≡ item_text found
unfolding item
item_ok word found e = item_of_text word found (or_refused_ok BadNumber (item_of word) found e)

-- spells the items of a map line
pub items_ok : (words : List (List ℕ)) (found : List Item) → items words ≡ Ok found → words ≡ map item_text found
unfolding items
items_ok words found e = each_text item_of item_text item_of_text words found (or_refused_ok BadNumber (each item_of words) found e)

-- spells the comparison of a filter line
pub comparison_ok : (word : List ℕ) (found : Cmp) → comparison word ≡ Ok found → word ≡ cmp_text found
unfolding comparison
comparison_ok word found e =
    one_of cmp_text word (codes "eq") Eq found _ (or_refused_ok UnknownCommand (comparison_of word) found e) refl (λ e.
    one_of cmp_text word (codes "ne") Ne found _ e refl (λ e.
    one_of cmp_text word (codes "lt") Lt found _ e refl (λ e.
    one_of cmp_text word (codes "le") Le found _ e refl (λ e.
    one_of cmp_text word (codes "gt") Gt found _ e refl (λ e.
    one_of cmp_text word (codes "ge") Ge found None e refl (λ e. absurd cc))))))

abbrev made : Item → Cmp → Item → Test
made left op right = record { left = left; op = op; right = right }

-- spells the test of a filter line
pub test_ok : (left op right : List ℕ) (found : Test) → filter_test left op right ≡ Ok found → (left ∷ op ∷ right ∷ []) ≡ test_words found
unfolding filter_test
test_ok left op right found e =
    let a = bind_ok (item left) (λ left. comparison op >>= λ op. item right >>= λ right. Ok (made left op right)) found e in
    let b = bind_ok (comparison op) (λ op. item right >>= λ right. Ok (made a.0 op right)) found a.2 in
    let c = bind_ok (item right) (λ right. Ok (made a.0 b.0 right)) found b.2 in
    three left op right (item_text a.0) (cmp_text b.0) (item_text c.0) (item_ok left a.0 a.1) (comparison_ok op b.0 b.1) (item_ok right c.0 c.1) ∙ ap test_words (same_ok (made a.0 b.0 c.0) found c.2)
  where
    three : (a b c a' b' c' : List ℕ) → a ≡ a' → b ≡ b' → c ≡ c' → (a ∷ b ∷ c ∷ []) ≡ (a' ∷ b' ∷ c' ∷ [])
    three a b c a' b' c' e f g = cc
