-- Changes of some histories, one after the other: what is given is appended first, and then the
-- other pending times are put in place. What was appended can be taken back.
use Rattle.std.proofs.Common.{◌≡◌, ℕ, zero, suc, ◌+◌, ◌-◌, ◌<◌, ◌≤◌, List, [], ◌∷◌, ◌++◌, ℤ, map, set, take, drop, length, get_or, slice_get, Some, IsSomeAnd, refl, sym, ap, ◌∙◌, subst, inl, inr, arith, add-one, drop-cons, length-take, length-drop}
use Rattle.std.specs.List.{slice_range}
use Rattle.std.proofs.lemmas.List.{take_more, length-append, drop-drop}
use Rattle.std.proofs.lemmas.Option.{same_Some}
use Rattle.update.specs.declared.change.Update.{Update}
use Rattle.joined_times.specs.Joined.{Member, AreOnce}
use Rattle.reduce.specs.Histories.{HistoryState, AreKeysApart, changed_at, given_more, given_less, due_left}
use Rattle.reduce.specs.Visits.{ChangeState, AreCut, all_given, all_taken_back, all_left, all_changed}
use Rattle.reduce.proofs.HistoryLemmas.{keys_kept}

module _ {X : Type 0} where
  pub front_of : (xs ys : List X) → take (length xs) (xs ++ ys) ≡ xs
  front_of [] ys = refl
  front_of (x ∷ xs) ys = ap (λ z. x ∷ z) (front_of xs ys)

  pub behind_front : (xs ys : List X) → drop (length xs) (xs ++ ys) ≡ ys
  behind_front [] ys = refl
  behind_front (x ∷ xs) ys = behind_front xs ys

  slice_get-at : (xs : List X) (i : ℕ) (x : X) → i < length xs → x ≡ get_or xs i x → slice_get xs i ≡ Some x
  slice_get-at [] i x l e = absurd (omega (arith, l))
  slice_get-at (y ∷ xs) zero x l e = ap Some (sym e)
  slice_get-at (y ∷ xs) (suc i) x l e = slice_get-at xs i x (omega (arith, l)) e

module _ {T : Type 0} where
  -- ---- one history

  -- the history at a place, written anew, is the one that is changed
  pub changed_is : (i : ℕ) (f : HistoryState T → HistoryState T) (hs : List (HistoryState T)) (h : HistoryState T) → slice_get hs i ≡ Some h → changed_at i f hs ≡ set hs i (f h)
  changed_is i f [] h e = refl
  changed_is zero f (g ∷ hs) h e = ap (λ (x : HistoryState T). f x ∷ hs) (same_Some g h e)
  changed_is (suc i) f (g ∷ hs) h e = ap (λ xs. g ∷ xs) (changed_is i f hs h e)

  -- that is what a write at the place comes to
  module _ (i : ℕ) (f : HistoryState T → HistoryState T) (hs items : List (HistoryState T)) (old new : HistoryState T) (same : hs ≡ items) (within : i < length items) (read : old ≡ get_or hs i old) (wrote : new ≡ f old) where
    pub there : slice_get hs i ≡ Some old
    there = slice_get-at hs i old (subst (λ xs. i < length xs) (sym same) within) read

    pub changed_there : set hs i new ≡ changed_at i f items
    changed_there = ap (set hs i) wrote ∙ (sym (changed_is i f hs old there) ∙ ap (changed_at i f) same)

    -- and the keys stay
    pub keys_stay : (keys : List (List ℤ)) → ((h : HistoryState T) → (f h).key ≡ h.key) → (keys ≡ map (λ h. h.key) hs) × AreKeysApart hs → (keys ≡ map (λ h. h.key) (set hs i new)) × AreKeysApart (set hs i new)
    keys_stay keys kept is =
        keys_kept keys hs i new is (subst (λ o. IsSomeAnd o (λ h. h.key ≡ new.key)) (sym there) (sym (ap (λ (h : HistoryState T). h.key) wrote ∙ kept old)))

  -- as many histories as before
  pub changed_length : (i : ℕ) (f : HistoryState T → HistoryState T) (hs : List (HistoryState T)) → length (changed_at i f hs) ≡ length hs
  changed_length i f [] = refl
  changed_length zero f (h ∷ hs) = refl
  changed_length (suc i) f (h ∷ hs) = ap suc (changed_length i f hs)

  -- changes at two places may come in either order
  pub changed_swap : (i j : ℕ) (f g : HistoryState T → HistoryState T) (hs : List (HistoryState T)) → (i ≡ j → ⊥) → changed_at i f (changed_at j g hs) ≡ changed_at j g (changed_at i f hs)
  changed_swap i j f g [] n = refl
  changed_swap zero zero f g (h ∷ hs) n = absurd (n refl)
  changed_swap zero (suc j) f g (h ∷ hs) n = refl
  changed_swap (suc i) zero f g (h ∷ hs) n = refl
  changed_swap (suc i) (suc j) f g (h ∷ hs) n = ap (λ xs. h ∷ xs) (changed_swap i j f g hs (λ e. n (ap suc e)))

  -- and two changes at one place are one
  pub changed_twice : (i : ℕ) (f g : HistoryState T → HistoryState T) (hs : List (HistoryState T)) → changed_at i f (changed_at i g hs) ≡ changed_at i (λ h. f (g h)) hs
  changed_twice i f g [] = refl
  changed_twice zero f g (h ∷ hs) = refl
  changed_twice (suc i) f g (h ∷ hs) = ap (λ xs. h ∷ xs) (changed_twice i f g hs)

  pub changed_back : (i : ℕ) (f : HistoryState T → HistoryState T) (hs : List (HistoryState T)) → ((h : HistoryState T) → f h ≡ h) → changed_at i f hs ≡ hs
  changed_back i f [] same = refl
  changed_back zero f (h ∷ hs) same = ap (λ x. x ∷ hs) (same h)
  changed_back (suc i) f (h ∷ hs) same = ap (λ xs. h ∷ xs) (changed_back i f hs same)

  taken_off : (xs ys : List (Update T)) → take (length (xs ++ ys) - length ys) (xs ++ ys) ≡ xs
  taken_off xs ys =
      let shorter : length (xs ++ ys) - length ys ≡ length xs = let l = length-append xs ys in omega (arith, l) in
      ap (λ n. take n (xs ++ ys)) shorter ∙ front_of xs ys

  -- what was appended is taken back
  pub given_back : (i many : ℕ) (more : List (Update T)) (hs : List (HistoryState T)) → length more ≡ many → changed_at i (given_less many) (changed_at i (given_more more) hs) ≡ hs
  given_back i many more hs e =
      changed_twice i (given_less many) (given_more more) hs
      ∙ changed_back i (λ h. given_less many (given_more more h)) hs (λ h. ap (λ g. record h { given = g }) (ap (λ n. take (length (h.given ++ more) - n) (h.given ++ more)) (sym e) ∙ taken_off h.given more))

  -- ---- some of them

  -- what was appended last is taken back first
  pub taken_back_more : (cs : List (ChangeState T)) (c : ChangeState T) (hs : List (HistoryState T)) → all_taken_back (cs ++ c ∷ []) hs ≡ all_taken_back cs (changed_at c.place (given_less c.many) hs)
  taken_back_more [] c hs = refl
  taken_back_more (d ∷ cs) c hs = ap (changed_at d.place (given_less d.many)) (taken_back_more cs c hs)

  pub given_length : (cs : List (ChangeState T)) (out : List (Update T)) (hs : List (HistoryState T)) → length (all_given cs out hs) ≡ length hs
  given_length [] out hs = refl
  given_length (c ∷ cs) out hs = given_length cs (drop c.many out) (changed_at c.place (given_more (take c.many out)) hs) ∙ changed_length c.place (given_more (take c.many out)) hs

  -- a change elsewhere may come before or after
  given_swap : (cs : List (ChangeState T)) (out : List (Update T)) (hs : List (HistoryState T)) (i : ℕ) (f : HistoryState T → HistoryState T) → (Member i (map (λ c. c.place) cs) → ⊥)
      → changed_at i f (all_given cs out hs) ≡ all_given cs out (changed_at i f hs)
  given_swap [] out hs i f n = refl
  given_swap (c ∷ cs) out hs i f n =
      given_swap cs (drop c.many out) (changed_at c.place (given_more (take c.many out)) hs) i f (λ m. n (inr m))
      ∙ ap (all_given cs (drop c.many out)) (changed_swap i c.place f (given_more (take c.many out)) hs (λ e. n (inl e)))

  -- once all is given and all other times are put in place, each history is changed as a whole
  pub changed_both : (cs : List (ChangeState T)) (out : List (Update T)) (hs : List (HistoryState T)) → AreOnce (map (λ c. c.place) cs) → all_left cs (all_given cs out hs) ≡ all_changed cs out hs
  changed_both [] out hs once = refl
  changed_both (c ∷ cs) out hs once =
      ap (all_left cs) (given_swap cs (drop c.many out) (changed_at c.place (given_more (take c.many out)) hs) c.place (due_left c.rest) once.0)
      ∙ (changed_both cs (drop c.many out) (changed_at c.place (due_left c.rest) (changed_at c.place (given_more (take c.many out)) hs)) once.1
      ∙ ap (all_changed cs (drop c.many out)) (changed_twice c.place (due_left c.rest) (given_more (take c.many out)) hs))

module _ {X : Type 0} where
  -- the next element of what is left of a list
  next : (xs : List X) (i : ℕ) (x : X) → i < length xs → x ≡ get_or xs i x → drop i xs ≡ x ∷ drop (i + 1) xs
  next xs i x lt e = drop_at xs i x lt ∙ ap (λ y. y ∷ drop (i + 1) xs) (sym e)
    where
      drop_at : (xs : List X) (i : ℕ) (x : X) → i < length xs → drop i xs ≡ get_or xs i x ∷ drop (i + 1) xs
      drop_at xs i x lt = rw (add-one, drop-cons xs i x) refl

  more_taken : (xs : List X) (i : ℕ) (x : X) → i < length xs → x ≡ get_or xs i x → take (i + 1) xs ≡ take i xs ++ x ∷ []
  more_taken xs i x lt e = take_more xs i x lt ∙ ap (λ y. take i xs ++ y ∷ []) (sym e)

  all_dropped : (xs : List X) → drop (length xs) xs ≡ []
  all_dropped [] = refl
  all_dropped (x ∷ xs) = all_dropped xs

  -- an element of the front is one of the list
  pub in_front : (xs : List X) (i : ℕ) (x : X) → Member x (take i xs) → Member x xs
  in_front xs zero x m = absurd m
  in_front [] (suc i) x m = absurd m
  in_front (y ∷ xs) (suc i) x (inl e) = inl e
  in_front (y ∷ xs) (suc i) x (inr m) = inr (in_front xs i x m)

module _ {T : Type 0} (cs : List (ChangeState T)) (out : List (Update T)) (old : List (HistoryState T)) where
  -- what is given at the first i changes is appended, and the other updates are left
  pub record IsGiving (i : ℕ) (left : List (Update T)) (hs : List (HistoryState T)) : Type 0 where
    pub cut : AreCut (drop i cs) left
    pub ahead : all_given (drop i cs) left hs ≡ all_given cs out old
    pub behind : all_taken_back (take i cs) hs ≡ old
    pub size : length hs ≡ length old

  -- one more change has its updates appended
  pub giving_more : (i : ℕ) (left : List (Update T)) (hs : List (HistoryState T)) (c : ChangeState T) → i < length cs → c ≡ get_or cs i c → IsGiving i left hs
      → (own others : List (Update T)) (hs2 : List (HistoryState T)) → own ≡ take c.many left → others ≡ drop c.many left → hs2 ≡ changed_at c.place (given_more own) hs → IsGiving (i + 1) others hs2
  giving_more i left hs c lt e g own others hs2 o r h =
      let cut : AreCut (c ∷ drop (i + 1) cs) left = subst (λ z. AreCut z left) (next cs i c lt e) g.cut in
      let is : hs2 ≡ changed_at c.place (given_more (take c.many left)) hs = h ∙ ap (λ z. changed_at c.place (given_more z) hs) o in
      record {
        cut = subst (AreCut (drop (i + 1) cs)) (sym r) cut.1;
        ahead =
            ap (λ z. all_given (drop (i + 1) cs) z hs2) r
            ∙ (ap (all_given (drop (i + 1) cs) (drop c.many left)) is
            ∙ (ap (λ z. all_given z left hs) (sym (next cs i c lt e)) ∙ g.ahead));
        behind =
            ap (λ z. all_taken_back z hs2) (more_taken cs i c lt e)
            ∙ (taken_back_more (take i cs) c hs2
            ∙ (ap (λ z. all_taken_back (take i cs) (changed_at c.place (given_less c.many) z)) is
            ∙ (ap (all_taken_back (take i cs)) (given_back c.place c.many (take c.many left) hs (taken_length left c.many cut.0)) ∙ g.behind)));
        size = ap length is ∙ (changed_length c.place (given_more (take c.many left)) hs ∙ g.size);
      }
    where
      taken_length : (us : List (Update T)) (n : ℕ) → n ≤ length us → length (take n us) ≡ n
      taken_length us n l = length-take n us ∙ omega (arith, l)

  -- the next change has the part of the updates behind those that were appended
  module _ (i left : ℕ) (hs : List (HistoryState T)) (c : ChangeState T) (lt : i < length cs) (e : c ≡ get_or cs i c) (within : left ≤ length out) (g : IsGiving i (drop (length out - left) out) hs) where
    -- there are as many as it needs
    pub enough : c.many ≤ left
    enough =
        let cut : AreCut (c ∷ drop (i + 1) cs) (drop (length out - left) out) = subst (λ z. AreCut z (drop (length out - left) out)) (next cs i c lt e) g.cut in
        let some = cut.0 in
        let many = length-drop (length out - left) out in
        omega (arith, within, some, many)

    pub giving_part : (start end : ℕ) (hs2 : List (HistoryState T)) → start ≡ length out - left → end ≡ length out - (left - c.many) → hs2 ≡ changed_at c.place (given_more (slice_range out start end)) hs
        → IsGiving (i + 1) (drop (length out - (left - c.many)) out) hs2
    giving_part start end hs2 s t h =
        let some = enough in
        let own : slice_range out start end ≡ take c.many (drop (length out - left) out) =
        ap (λ n. take n (drop start out)) (omega (arith, within, some, s, t)) ∙ ap (λ n. take c.many (drop n out)) s in
        let others : drop (length out - (left - c.many)) out ≡ drop c.many (drop (length out - left) out) =
        ap (λ n. drop n out) (omega (arith, within, some)) ∙ sym (drop-drop c.many (length out - left) out) in
        giving_more i (drop (length out - left) out) hs c lt e g (slice_range out start end) (drop (length out - (left - c.many)) out) hs2 own others h

-- one more is taken back, from behind
pub taking_back : {T : Type 0} (cs : List (ChangeState T)) (i : ℕ) (c : ChangeState T) (hs hs2 : List (HistoryState T)) → i < length cs → c ≡ get_or cs i c → hs2 ≡ changed_at c.place (given_less c.many) hs
    → all_taken_back (take i cs) hs2 ≡ all_taken_back (take (i + 1) cs) hs
taking_back cs i c hs hs2 lt e is = ap (all_taken_back (take i cs)) is ∙ (sym (taken_back_more (take i cs) c hs) ∙ ap (λ z. all_taken_back z hs) (sym (more_taken cs i c lt e)))
