-- The steps of work: a merge is given up, begun, goes on, or puts its batch in place. What was read
-- is never lost, but in vain.
use Rattle.std.proofs.Common.{◌≡◌, ℕ, suc, ◌+◌, ◌<◌, ◌≤◌, Bool, true, false, cond, List, [], ◌∷◌, ◌++◌, length, slice_get, option_to_list, Some, IsTrue, refl, sym, ◌∙◌, ap, subst, arith}
use Rattle.std.specs.List.{AllByRecursion, list_any}
use Rattle.std.specs.declared.cmp.Ordering.{Ordering}
use Rattle.std.proofs.lemmas.List.Sums.{sum_by-cons, sum_by_push}
use Rattle.lattice.specs.Times.{Times}
use Rattle.lattice.specs.Order.{PartialOrderLaws}
use Rattle.lattice.specs.Frontiers.{all_beyond}
use Rattle.lattice.proofs.FrontierLemmas.{all_beyond_later, beyond_itself}
use Rattle.batch.specs.Descriptions.{BatchState}
use Rattle.trace.specs.Holds.{HoldState}
use Rattle.trace.proofs.BoundaryLemmas.{some_same}
use Rattle.levels.specs.Levels.{UnderwayState, LevelsState, Change, Merged, Rewritten, changed, width_of, end_of_place, end_of_places, read_of, sources_of, IsSameMerge, IsChangeAs, IsWithoutNewest, HasGoneOn, IsPut, IsBegun, HasLargeNewest, AreUnderwayFrom, AreUnderway}
use Rattle.levels.proofs.PlaceLemmas.{changed_before, places_forward, popped, in_within}
use Rattle.levels.proofs.UnderwayLemmas.{reads_within}
use Rattle.spine.specs.HoldRules.{forbids}
use Rattle.spine.specs.Spines.{ProgressState, SpineState, IsAllowed, AreEarlier, IsCountAfter, IsReady, IsWorked, IsWorkedOn, HasLargePlace, is_barred, reads_of, read_by, read_in_vain}
use Rattle.spine.proofs.ChangeLemmas.{barred_is}
use Rattle.spine.proofs.MergeLemmas.{same_worked, change_worked}

-- ---- the last one of a list

last_get : {X : Type 0} (xs : List X) (x : X) → slice_get (xs ++ x ∷ []) (length xs) ≡ Some x
last_get [] x = refl
last_get (y ∷ xs) x = last_get xs x

long_push : {X : Type 0} (xs : List X) (x : X) → length (xs ++ x ∷ []) ≡ suc (length xs)
long_push [] x = refl
long_push (y ∷ xs) x = ap suc (long_push xs x)

pub last_same : {X : Type 0} (xs ys : List X) (x y : X) → xs ++ x ∷ [] ≡ ys ++ y ∷ [] → x ≡ y
last_same xs ys x y e =
    let long : length xs ≡ length ys = let a = long_push xs x in let b = long_push ys y in let k = ap length e in omega (arith, a, b, k) in
    some_same (sym (last_get xs x) ∙ (λ i. slice_get (e i) (long i)) ∙ last_get ys y)

all_last : {X : Type 0} (P : X → Type 0) (xs : List X) (x : X) → AllByRecursion P (xs ++ x ∷ []) → P x
all_last P [] x h = h.0
all_last P (y ∷ xs) x h = all_last P xs x h.1

all_front : {X : Type 0} (P : X → Type 0) (xs : List X) (x : X) → AllByRecursion P (xs ++ x ∷ []) → AllByRecursion P xs
all_front P [] x h = tt
all_front P (y ∷ xs) x h = (h.0, all_front P xs x h.1)

all_push : {X : Type 0} (P : X → Type 0) (xs : List X) (x : X) → AllByRecursion P xs → P x → AllByRecursion P (xs ++ x ∷ [])
all_push P [] x h p = (p, tt)
all_push P (y ∷ xs) x h p = (h.0, all_push P xs x h.1 p)

all_more : {X : Type 0} (P Q : X → Type 0) → ((x : X) → P x → Q x) → (xs : List X) → AllByRecursion P xs → AllByRecursion Q xs
all_more P Q f [] h = tt
all_more P Q f (x ∷ xs) h = (f x h.0, all_more P Q f xs h.1)

-- ---- merges as of the since or an earlier frontier

module _ {T : Type 0} {times : Times T} (o : PartialOrderLaws times) where
  pub earlier_later : (since later : List T) (us : List (UnderwayState T)) → IsTrue (all_beyond times since later) → AreEarlier times since us → AreEarlier times later us
  earlier_later since later us onward is =
      all_more
      (λ (u : UnderwayState T). IsTrue (all_beyond times u.merging.description.since since))
      (λ (u : UnderwayState T). IsTrue (all_beyond times u.merging.description.since later))
      (λ u h. all_beyond_later o u.merging.description.since since later h onward) us is

  pub earlier_begun : (since : List T) (us : List (UnderwayState T)) (u : UnderwayState T) → u.merging.description.since ≡ since → AreEarlier times since us → AreEarlier times since (us ++ u ∷ [])
  earlier_begun since us u e is =
      all_push (λ (v : UnderwayState T). IsTrue (all_beyond times v.merging.description.since since)) us u is
      (subst (λ F. IsTrue (all_beyond times F since)) (sym e) (beyond_itself o since))

module _ {T : Type 0} (times : Times T) (since : List T) where
  pub earlier_last : (us : List (UnderwayState T)) (u : UnderwayState T) → AreEarlier times since (us ++ u ∷ []) → IsTrue (all_beyond times u.merging.description.since since)
  earlier_last us u is = all_last (λ (v : UnderwayState T). IsTrue (all_beyond times v.merging.description.since since)) us u is

  pub earlier_front : (us : List (UnderwayState T)) (u : UnderwayState T) → AreEarlier times since (us ++ u ∷ []) → AreEarlier times since us
  earlier_front us u is = all_front (λ (v : UnderwayState T). IsTrue (all_beyond times v.merging.description.since since)) us u is

  -- a merge that goes on stays as of its frontier
  pub earlier_on : (us : List (UnderwayState T)) (u v : UnderwayState T) → IsSameMerge u v → AreEarlier times since (us ++ u ∷ []) → AreEarlier times since (us ++ v ∷ [])
  earlier_on us u v same is =
      all_push (λ (w : UnderwayState T). IsTrue (all_beyond times w.merging.description.since since)) us v (earlier_front us u is)
      (subst (λ d. IsTrue (all_beyond times d.since since)) (sym same.described) (earlier_last us u is))

-- ---- what was read in vain

module _ {T : Type 0} (times : Times T) where
  abbrev vain : List (HoldState T) → List (BatchState T) → UnderwayState T → ℕ
  vain holds bs u = cond (is_barred times holds bs u.alone u.number) (read_of u) 0

  abbrev all_vain : List (HoldState T) → List (BatchState T) → List (UnderwayState T) → ℕ
  all_vain holds bs us = read_in_vain times (record { list = record { worker = 0; node = 0; start = []; batches = bs; reserved = false }; since = []; holds = holds; progress = record { copied = 0; underway = us } })

  vain_push : (holds : List (HoldState T)) (bs : List (BatchState T)) (us : List (UnderwayState T)) (u : UnderwayState T) → all_vain holds bs (us ++ u ∷ []) ≡ all_vain holds bs us + vain holds bs u
  vain_push holds bs us u = sum_by_push (vain holds bs) us u

  vain_of_none : (holds : List (HoldState T)) (bs : List (BatchState T)) (u : UnderwayState T) → read_of u ≡ 0 → vain holds bs u ≡ 0
  vain_of_none holds bs u e =
      elim (is_barred times holds bs u.alone u.number) as (λ b. cond b (read_of u) 0 ≡ 0) [
        | true ↦ e
        | false ↦ refl
      ]

  barred_elsewhere : (holds : List (HoldState T)) (bs cs : List (BatchState T)) (k : ℕ) (alone : Bool) (i : ℕ) → ((j : ℕ) → j < k → slice_get cs j ≡ slice_get bs j) → i + width_of alone ≤ k → is_barred times holds cs alone i ≡ is_barred times holds bs alone i
  barred_elsewhere holds bs cs k true i same l = refl
  barred_elsewhere holds bs cs k false i same l =
      barred_is times holds cs i
      ∙ ap (λ r. list_any (λ (b : BatchState T). forbids times holds b.description.upper) (option_to_list r)) (same i (omega (arith, l)))
      ∙ sym (barred_is times holds bs i)

  module _ (cmp : T → T → Ordering) where
    vain_elsewhere : (holds : List (HoldState T)) (bs cs : List (BatchState T)) (k from : ℕ) (us : List (UnderwayState T)) → ((j : ℕ) → j < k → slice_get cs j ≡ slice_get bs j) → end_of_places from us ≤ k → AreUnderwayFrom times cmp from bs us → all_vain holds cs us ≡ all_vain holds bs us
    vain_elsewhere holds bs cs k from [] same l is = refl
    vain_elsewhere holds bs cs k from (u ∷ us) same l is =
        let r = places_forward times cmp bs (end_of_place u) us is.2 in
        let a = sum_by-cons (vain holds cs) u us in
        let b = sum_by-cons (vain holds bs) u us in
        let e = ap (λ c. cond c (read_of u) 0) (barred_elsewhere holds bs cs k u.alone u.number same (omega (arith, r, l))) in
        let rest = vain_elsewhere holds bs cs k (end_of_place u) us same l is.2 in
        omega (arith, a, b, e, rest)

-- ---- the steps

module _ {T : Type 0} (times : Times T) (o : PartialOrderLaws times) (since : List T) (holds : List (HoldState T)) where
  -- a spine over levels
  abbrev pub over : LevelsState T → ℕ → SpineState T
  over l copied = record { list = l.list; since = since; holds = holds; progress = record { copied = copied; underway = l.underway } }

  -- the newest merge is gone
  lost_newest : (l m : LevelsState T) (copied : ℕ) (w : IsWithoutNewest l m) → IsWorked times 0 (read_of w.newest) (over l copied) (over m copied)
  lost_newest l m copied w =
      let was = ap (λ (us : List (UnderwayState T)). read_by us) w.was in
      let push = sum_by_push (λ (u : UnderwayState T). read_of u) w.older w.newest in
      let p : ProgressState T = record { copied = copied; underway = w.older } in
      let is : IsWorked times 0 (read_of w.newest) (over l copied) (record (over l copied) { progress = p }) =
      same_worked times o (over l copied) p 0 (read_of w.newest) (λ k. omega (arith, k)) (omega (arith, was, push)) in
      subst (λ (x : LevelsState T). IsWorked times 0 (read_of w.newest) (over l copied) (over x copied)) (sym w.is) is

  pub gone : (l m : LevelsState T) (copied : ℕ) → IsWithoutNewest l m → (lost : ℕ) × IsWorked times 0 lost (over l copied) (over m copied)
  gone l m copied w = (read_of w.newest, lost_newest l m copied w)

  -- it was barred
  pub given_up : (l m : LevelsState T) (copied : ℕ) → IsWithoutNewest l m
      → ((older : List (UnderwayState T)) (u : UnderwayState T) → l.underway ≡ older ++ u ∷ [] → is_barred times holds l.list.batches u.alone u.number ≡ true)
      → IsWorkedOn times 0 (over l copied) (over m copied)
  given_up l m copied w barred =
      let bs = l.list.batches in
      let was = ap (all_vain times holds bs) w.was in
      let push = vain_push times holds bs w.older w.newest in
      let here = ap (λ b. cond b (read_of w.newest) 0) (barred w.older w.newest w.was) in
      let less = ap (λ (x : LevelsState T). all_vain times holds x.list.batches x.underway) w.is in
      record {
        lost = read_of w.newest;
        worked = lost_newest l m copied w;
        in_vain = omega (arith, was, push, here, less);
      }

  -- a merge was begun
  pub begun : (l m : LevelsState T) (copied i : ℕ) (alone : Bool) (F : List T) (u : UnderwayState T) → m ≡ record l { underway = l.underway ++ u ∷ [] } → IsBegun i alone F u → IsWorkedOn times 0 (over l copied) (over m copied)
  begun l m copied i alone F u e is =
      let p : ProgressState T = record { copied = copied; underway = l.underway ++ u ∷ [] } in
      let push = sum_by_push (λ (v : UnderwayState T). read_of v) l.underway u in
      let none = is.unread in
      let bs = l.list.batches in
      let push-2 = vain_push times holds bs l.underway u in
      let none-2 = vain_of_none times holds bs u is.unread in
      let worked : IsWorkedOn times 0 (over l copied) (record (over l copied) { progress = p }) = record {
        lost = 0;
        worked = same_worked times o (over l copied) p 0 0 (λ k. omega (arith, k)) (omega (arith, push, none));
        in_vain = omega (arith, push-2, none-2);
      } in
      subst (λ (x : LevelsState T). IsWorkedOn times 0 (over l copied) (over x copied)) (sym e) worked

  -- the newest merge has gone on, and may go on
  pub gone_on : (l m : LevelsState T) (old new fuel : ℕ) → IsReady times (over l old) → HasGoneOn fuel l m → IsCountAfter old fuel new → IsWorkedOn times fuel (over l old) (over m new)
  gone_on l m old new fuel ready h count =
      let bs = l.list.batches in
      let p : ProgressState T = record { copied = new; underway = h.older ++ h.after ∷ [] } in
      let was = ap (λ (us : List (UnderwayState T)). read_by us) h.was in
      let push = sum_by_push (λ (v : UnderwayState T). read_of v) h.older h.before in
      let push-2 = sum_by_push (λ (v : UnderwayState T). read_of v) h.older h.after in
      let read = h.read in
      let was-3 = ap (all_vain times holds bs) h.was in
      let push-3 = vain_push times holds bs h.older h.before in
      let push-4 = vain_push times holds bs h.older h.after in
      let free = ready h.older h.before h.was in
      let none-3 = ap (λ b. cond b (read_of h.before) 0) free in
      let place = ap (λ (v : UnderwayState T). is_barred times holds bs v.alone v.number) h.same.place in
      let none-4 = ap (λ b. cond b (read_of h.after) 0) (place ∙ free) in
      let worked : IsWorkedOn times fuel (over l old) (record (over l old) { progress = p }) = record {
        lost = 0;
        worked = same_worked times o (over l old) p fuel 0 count (omega (arith, was, push, push-2, read));
        in_vain = omega (arith, was-3, push-3, push-4, none-3, none-4);
      } in
      subst (λ (x : LevelsState T). IsWorkedOn times fuel (over l old) (over x new)) (sym h.is) worked

  -- a change that a merge makes is allowed
  makes_allowed : (bs : List (BatchState T)) (u : UnderwayState T) (c : Change T) → u.number + width_of u.alone ≤ length bs → is_barred times holds bs u.alone u.number ≡ false → IsTrue (all_beyond times u.merging.description.since since) → IsChangeAs times bs u c → IsAllowed times since holds c bs
  makes_allowed bs u (Merged i m) within free earlier is = (
    record {
      within = let e = is.1 in let f = ap width_of is.0 in omega (arith, within, e, f);
      allowed = (λ k. is_barred times holds bs (sym is.0 k) (is.1 k)) ∙ free;
    },
    subst (λ F. IsTrue (all_beyond times F since)) (sym is.2) earlier,
    is.3,
  )
  makes_allowed bs u (Rewritten i m) within free earlier is = (
    record {
      within = let e = is.1 in let f = ap width_of is.0 in omega (arith, within, e, f);
      allowed = (λ k. is_barred times holds bs (sym is.0 k) (is.1 k)) ∙ free;
    },
    subst (λ F. IsTrue (all_beyond times F since)) (sym is.2) earlier,
    is.3,
  )

  makes_reads : (bs : List (BatchState T)) (u : UnderwayState T) (c : Change T) → IsChangeAs times bs u c → reads_of c bs ≡ length (sources_of bs u)
  makes_reads bs u (Merged i m) is = λ k. length (sources_of bs (record u { number = is.1 k; alone = sym is.0 k }))
  makes_reads bs u (Rewritten i m) is = λ k. length (sources_of bs (record u { number = is.1 k; alone = sym is.0 k }))

  -- the newest merge has put its batch in place
  pub put : (cmp : T → T → Ordering) (l m : LevelsState T) (old new fuel left copies : ℕ) → AreUnderway times cmp l.list.batches l.underway → AreEarlier times since l.underway → IsReady times (over l old) → IsPut times fuel left l m → left + suc copies ≡ fuel → IsCountAfter old copies new → IsWorkedOn times (suc copies) (over l old) (over m new)
  put cmp l m old new fuel left copies are earlier ready h spent count =
      let bs = l.list.batches in
      let all = popped times cmp bs h.older h.newest (subst (λ us. AreUnderway times cmp bs us) h.was are) in
      let free = ready h.older h.newest h.was in
      let within = in_within times cmp h.newest.alone h.newest.number h.newest.merging bs all.at in
      let is = makes_allowed bs h.newest h.change within free (earlier_last times since h.older h.newest (subst (AreEarlier times since) h.was earlier)) h.makes in
      let p : ProgressState T = record { copied = new; underway = h.older } in
      let was = ap (λ (us : List (UnderwayState T)). read_by us) h.was in
      let push = sum_by_push (λ (v : UnderwayState T). read_of v) h.older h.newest in
      let reads = makes_reads bs h.newest h.change h.makes in
      let few = reads_within times cmp bs h.newest all.at in
      let cost = h.spent in
      let worked = change_worked times o (over l old) h.change m.list.reserved p copies 0 is count (omega (arith, was, push, reads, few, cost, spent)) in
      let was-3 = ap (all_vain times holds bs) h.was in
      let push-3 = vain_push times holds bs h.older h.newest in
      let none-3 = ap (λ b. cond b (read_of h.newest) 0) free in
      let same = vain_elsewhere times cmp holds bs (changed h.change bs) h.newest.number 0 h.older (changed_before times bs h.newest h.change h.makes) all.behind all.older in
      let on : IsWorkedOn times (suc copies) (over l old) (record (over l old) { list = record l.list { batches = changed h.change bs; reserved = m.list.reserved }; progress = p }) = record {
        lost = 0;
        worked = worked;
        in_vain = omega (arith, was-3, push-3, none-3, same);
      } in
      subst (λ (x : LevelsState T). IsWorkedOn times (suc copies) (over l old) (over x new)) (sym h.is) on

  -- why the newest merge was refused
  pub large_newest : (l : LevelsState T) → AreEarlier times since l.underway → HasLargeNewest times l → HasLargePlace times since l.list.batches
  large_newest l earlier h = record {
    frontier = h.1.merging.description.since;
    earlier = earlier_last times since h.0 h.1 (subst (AreEarlier times since) h.2 earlier);
    alone = h.1.alone;
    number = h.1.number;
    large = h.3;
  }
