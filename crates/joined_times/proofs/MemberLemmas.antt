-- Members of lists: of the parts of a list, of images, and of lists with the same members.
use Rattle.std.proofs.Common.{◌≡◌, ◌↔◌, ℕ, zero, suc, ◌-◌, ◌<◌, List, [], ◌∷◌, ◌++◌, map, length, get_or, ◌⊎◌, inl, inr, ⊎_elim, refl, sym, ap, subst, arith}
use Rattle.std.specs.List.{AllByRecursion, Contains}
use Rattle.joined_times.specs.Joined.{Member}
use Rattle.joined_times.specs.Additions.{SameMembers}

-- ---- facts that hold together

pub itself : {A : Type 0} → (A ↔ A)
itself = ((λ a. a), (λ a. a))

-- a fact with a second one, and this with a third
pub through : {A B C : Type 0} → (A ↔ B) → (B ↔ C) → (A ↔ C)
through p q = ((λ a. q.0 (p.0 a)), (λ c. p.1 (q.1 c)))

-- the same, the other way round
pub back : {A B : Type 0} → (A ↔ B) → (B ↔ A)
back p = (p.1, p.0)

-- one of two facts
pub in_each : {A B C D : Type 0} → (A ↔ B) → (C ↔ D) → (A ⊎ C) ↔ (B ⊎ D)
in_each p q = (
  (λ m. ⊎_elim (λ a. inl (p.0 a)) (λ c. inr (q.0 c)) m),
  (λ m. ⊎_elim (λ b. inl (p.1 b)) (λ d. inr (q.1 d)) m),
)

-- one of three facts, however they are grouped
pub regrouped : (A B C : Type 0) → ((A ⊎ B) ⊎ C) ↔ (A ⊎ (B ⊎ C))
regrouped A B C = (
  (λ m. ⊎_elim (λ l. ⊎_elim (λ a. inl a) (λ b. inr (inl b)) l) (λ c. inr (inr c)) m),
  (λ m. ⊎_elim (λ a. inl (inl a)) (λ r. ⊎_elim (λ b. inl (inr b)) (λ c. inr c) r) m),
)

-- one of two facts, in either order
pub exchanged : (A B : Type 0) → (A ⊎ B) ↔ (B ⊎ A)
exchanged A B = ((λ m. ⊎_elim (λ a. inr a) (λ b. inl b) m), (λ m. ⊎_elim (λ b. inr b) (λ a. inl a) m))

-- ---- members

module _ {X : Type 0} where
  -- a member of the left list is one of the whole
  pub in_left : (x : X) (xs ys : List X) → Member x xs → Member x (xs ++ ys)
  in_left x [] ys m = absurd m
  in_left x (z ∷ xs) ys m = ⊎_elim (λ e. inl e) (λ k. inr (in_left x xs ys k)) m

  -- a member of the right list is one of the whole
  pub in_right : (x : X) (xs ys : List X) → Member x ys → Member x (xs ++ ys)
  in_right x [] ys m = m
  in_right x (z ∷ xs) ys m = inr (in_right x xs ys m)

  -- a member of the whole is one of a part
  pub in_either : (x : X) (xs ys : List X) → Member x (xs ++ ys) → Member x xs ⊎ Member x ys
  in_either x [] ys m = inr m
  in_either x (z ∷ xs) ys m =
      ⊎_elim
      (λ e. inl (inl e))
      (λ k. ⊎_elim (λ l. inl (inr l)) (λ r. inr r) (in_either x xs ys k))
      m

  -- what holds of each member holds of one of them
  pub each_member : (P : X → Type 0) (xs : List X) → AllByRecursion P xs → (x : X) → Member x xs → P x
  each_member P [] all x m = absurd m
  each_member P (y ∷ xs) all x m = ⊎_elim (λ e. subst P (sym e) all.0) (λ n. each_member P xs all.1 x n) m

  -- one more of which it holds
  pub all_pushed : (P : X → Type 0) (xs : List X) (x : X) → AllByRecursion P xs → P x → AllByRecursion P (xs ++ x ∷ [])
  all_pushed P [] x all p = (p, tt)
  all_pushed P (y ∷ xs) x all p = (all.0, all_pushed P xs x all.1 p)

  -- and what holds of one after the other holds of each
  pub all_members : (P : X → Type 0) (xs : List X) → ((x : X) → Member x xs → P x) → AllByRecursion P xs
  all_members P [] h = tt
  all_members P (y ∷ xs) h = (h y (inl refl), all_members P xs (λ x m. h x (inr m)))

  -- the only member of a list of one
  pub only_one : (x y : X) → Member x (y ∷ []) → x ≡ y
  only_one x y m = ⊎_elim (λ e. e) (λ n. absurd n) m

  -- the members of a list with an element more at the end
  pub pushed_members : (x y : X) (xs : List X) → Member x (xs ++ y ∷ []) ↔ (Member x xs ⊎ (x ≡ y))
  pushed_members x y xs = (
    (λ m. ⊎_elim (λ k. inl k) (λ k. inr (only_one x y k)) (in_either x xs (y ∷ []) m)),
    (λ m. ⊎_elim (λ k. in_left x xs (y ∷ []) k) (λ e. in_right x xs (y ∷ []) (inl e)) m),
  )

  -- membership in std's sense gives membership
  pub member_from_contains : (xs : List X) (x : X) → Contains xs x → Member x xs
  member_from_contains xs x c = at xs c.0 c.1 c.2
    where
      at : (xs : List X) (k : ℕ) → k < length xs → get_or xs k x ≡ x → Member x xs
      at [] k l e = absurd (omega arith)
      at (y ∷ ys) zero l e = inl (sym e)
      at (y ∷ ys) (suc k) l e = inr (at ys k (omega arith) e)

  -- the element at an index is a member
  pub member_at : (xs : List X) (k : ℕ) (x : X) → k < length xs → x ≡ get_or xs k x → Member x xs
  member_at xs k x l e = member_from_contains xs x (k, l, sym e)

  -- the last element is a member
  pub member_last : (xs : List X) (x : X) → 0 < length xs → x ≡ get_or xs (length xs - 1) x → Member x xs
  member_last xs x l e = member_at xs (length xs - 1) x (omega arith) e

  -- membership gives membership in std's sense
  pub contains_from_member : (xs : List X) (x : X) → Member x xs → Contains xs x
  contains_from_member [] x m = absurd m
  contains_from_member (y ∷ ys) x m =
      ⊎_elim
      (λ e. (0, omega arith, sym e))
      (λ k. let c = contains_from_member ys x k in (suc c.0, (let l : c.0 < length ys = c.1 in omega arith), c.2))
      m

  -- two lists that have the same elements in std's sense have the same members
  pub same_from_contains : (xs ys : List X) → ((x : X) → Contains xs x → Contains ys x) → ((x : X) → Contains ys x → Contains xs x) → SameMembers xs ys
  same_from_contains xs ys to from x = (
    (λ m. member_from_contains ys x (to x (contains_from_member xs x m))),
    (λ m. member_from_contains xs x (from x (contains_from_member ys x m))),
  )

  -- the members of two lists, one after the other
  pub append_members : (x : X) (xs ys : List X) → Member x (xs ++ ys) ↔ (Member x xs ⊎ Member x ys)
  append_members x xs ys = (
    in_either x xs ys,
    (λ m. ⊎_elim (λ k. in_left x xs ys k) (λ k. in_right x xs ys k) m),
  )

module _ {X Y : Type 0} (f : X → Y) where
  -- the image of a member is a member of the images
  pub image_in : (x : X) (xs : List X) → Member x xs → Member (f x) (map f xs)
  image_in x [] m = absurd m
  image_in x (z ∷ xs) m = ⊎_elim (λ e. inl (ap f e)) (λ k. inr (image_in x xs k)) m

  -- a member of the images is the image of a member
  pub image_of : (y : Y) (xs : List X) → Member y (map f xs) → (x : X) × Member x xs × (y ≡ f x)
  image_of y [] m = absurd m
  image_of y (z ∷ xs) m =
      ⊎_elim
      (λ e. (z, inl refl, e))
      (λ k. let r = image_of y xs k in (r.0, inr r.1, r.2))
      m
