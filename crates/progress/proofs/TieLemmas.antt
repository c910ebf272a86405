-- Times that tie in the order for sorting are one.
use Rattle.std.proofs.Common.{◌≡◌, true, ap, sym, ◌∙◌, refl}
use Rattle.std.specs.BTreeMap.{is_at}
use Rattle.std.specs.Cmp.{IsTotalOrder}
use Rattle.std.specs.Ordering.{is_eq}
use Rattle.std.specs.declared.cmp.Ordering.{Ordering}
use Rattle.std.specs.declared.cmp.Ordering.TheVariants.{Less, Equal, Greater}
use Rattle.std.proofs.lemmas.Cmp.{tied_itself}

equal_from : (o : Ordering) → is_eq o ≡ true → o ≡ Equal
equal_from Less e = absurd (cc)
equal_from Equal e = refl
equal_from Greater e = absurd (cc)

module _ {T : Type 0} (cmp : T → T → Ordering) where
  -- what a look-up finds is the time
  pub tied_one : (exact : (s t : T) → cmp s t ≡ Equal → s ≡ t) → (x y : T) → is_at (cmp x) y ≡ true → y ≡ x
  tied_one exact x y h = sym (exact x y (equal_from (cmp x y) h))

  -- a look-up finds the time
  pub one_tied : IsTotalOrder cmp → (x y : T) → y ≡ x → is_at (cmp x) y ≡ true
  one_tied total x y e = ap (λ z. is_eq (cmp x z)) e ∙ ap is_eq (tied_itself total x)
