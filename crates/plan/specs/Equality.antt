-- Equality of items, as a test that decides it.
use Rattle.std.specs.Prelude.{◌≡◌, Bool, false, List, eqb}
use Rattle.std.proofs.Common.{ap}
use Rattle.std.specs.Bool.{Decides}
use Rattle.std.specs.Cmp.{IsEquivalence, signed_Decides, decided}
use Rattle.std.specs.Cmp.Lexicographic.{pointwise, pointwise_decides}
use Rattle.std.specs.Ordering.{int_eq}
use Rattle.std.proofs.lemmas.Bool.{eqb-true, eq-eqb}
use Rattle.row.specs.declared.projection.Item.{Item}
use Rattle.row.specs.declared.projection.Item.TheVariants.{Column, Constant}

-- the items are the same column or the same constant
abbrev pub same_item : Item → Item → Bool
same_item (Column number) (Column other) = eqb number other
same_item (Constant value) (Constant other) = int_eq value other
same_item (Column number) (Constant other) = false
same_item (Constant value) (Column other) = false

-- the lists have the same items
abbrev pub same_items : List Item → List Item → Bool
same_items = pointwise same_item

item_decides : (a b : Item) → Decides (same_item a b) (a ≡ b)
item_decides (Column n) (Column m) = ((λ h. ap (λ z. Column z) (eqb-true n m h)), (λ e. eq-eqb n m cc))
item_decides (Constant x) (Constant y) =
    ((λ h. ap (λ z. Constant z) ((signed_Decides x y).0 h)), (λ e. (signed_Decides x y).1 cc))
item_decides (Column n) (Constant y) = ((λ h. cc), (λ e. cc))
item_decides (Constant x) (Column m) = ((λ h. cc), (λ e. cc))

-- the test decides whether two lists of items are equal
pub items_decide : (a b : List Item) → Decides (same_items a b) (a ≡ b)
items_decide = pointwise_decides item_decides

-- the test is an equivalence, as `PartialEq` and `Eq` of items ask
pub items_equivalence : IsEquivalence same_items
items_equivalence = decided same_items items_decide
