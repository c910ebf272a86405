use Rattle.std.proofs.Common.{◌≡◌, ◌+◌, ◌++◌, ◌∷◌, [], length, map, inl, refl, sym, ◌∙◌, ap, subst, arith, append_assoc}
use Rattle.std.specs.Vec.Iter.{into_iter_items}
use Rattle.std.proofs.lemmas.List.{append-nil, nil_from_length, map_push}
use Rattle.joined_times.specs.Joined.{Member}
use Rattle.reduce.specs.Histories.{AreHistories, AreKeysApart, IsHistory, history_of}
use Rattle.reduce.specs.Intake.{IsPlaced, made_from, or_else}
use Rattle.joined_times.proofs.MemberLemmas.{each_member, image_in, in_right}
use Rattle.reduce.proofs.IntakeLemmas.{made_parts, made_same, placed_still, put_more, histories_parts}
use Rattle.reduce.proofs.intake.put_all.Goals as goal

-- each one that was made has pending times
pub put_one-requires-clause-due : goal.put_one-requires-clause-due
put_one-requires-clause-due g c =
    let ys = c.loop-renewal.yielded in
    let r = c.in-Some.renewal in
    let rest = into_iter_items c.next.new.self in
    let old = c.args.histories.now.items in
    let whole : c.args.made.items ≡ ys ++ r ∷ rest = c.loop-renewal.invariant.whole ∙ ap (λ xs. ys ++ xs) c.in-Some.ensures.steps.0 in
    c.requires.due (made_from old r) (image_in (made_from old) r c.args.made.items (subst (Member r) (sym whole) (in_right r ys (r ∷ rest) (inl refl))))

-- and is placed among the histories that are there by then
pub put_one-requires-clause-placed : goal.put_one-requires-clause-placed
put_one-requires-clause-placed g c =
    let ys = c.loop-renewal.yielded in
    let r = c.in-Some.renewal in
    let rest = into_iter_items c.next.new.self in
    let old = c.args.histories.now.items in
    let whole : c.args.made.items ≡ ys ++ r ∷ rest = c.loop-renewal.invariant.whole ∙ ap (λ xs. ys ++ xs) c.in-Some.ensures.steps.0 in
    placed_still old c.loop-renewal.histories.items ys r rest (subst AreKeysApart (made_parts old c.args.made.items ys r rest whole) c.requires.apart) c.loop-renewal.invariant.found c.loop-renewal.invariant.kept
    (each_member (IsPlaced old) c.args.made.items c.requires.placed r (subst (Member r) (sym whole) (in_right r ys (r ∷ rest) (inl refl))))

pub loop-renewal-preserved : goal.loop-renewal-preserved
loop-renewal-preserved g c =
    let ys = c.loop-renewal.yielded in
    let r = c.in-Some.renewal in
    let rest = into_iter_items c.next.new.self in
    let old = c.args.histories.now.items in
    let mid = c.loop-renewal.histories.items in
    let was = c.loop-renewal.invariant in
    let whole : c.args.made.items ≡ ys ++ r ∷ rest = c.loop-renewal.invariant.whole ∙ ap (λ xs. ys ++ xs) c.in-Some.ensures.steps.0 in
    let longer : length (into_iter_items c.loop-renewal.renewal-iterator) ≡ length rest + 1 = ap length c.in-Some.ensures.steps.0 ∙ omega arith in
    let apart : AreKeysApart (map (made_from old) ys ++ made_from old r ∷ map (made_from old) rest) = subst AreKeysApart (made_parts old c.args.made.items ys r rest whole) c.requires.apart in
    let same : made_from mid r ≡ made_from old r = made_same old mid ys r rest apart was.found in
    record {
      whole = whole ∙ sym (append_assoc ys (r ∷ []) rest);
      left = omega (arith, c.in-Some.ensures.steps.1, longer, was.left);
      room = omega (arith, longer, was.room, c.put_one.ensures.room);
      places = omega (arith, longer, was.places, c.put_one.ensures.place);
      waiting = c.put_one.ensures.waiting;
      found = λ key.
          put_more (map (made_from old) ys) (made_from old r) (map (made_from old) rest) old mid c.put_one.new.histories.items apart was.found
          (λ other. c.put_one.ensures.found other ∙ ap (λ h. or_else (history_of other (h ∷ [])) (history_of other mid)) same) key
          ∙ ap (λ xs. or_else (history_of key xs) (history_of key old)) (sym (map_push (made_from old) ys r));
      known = λ k before all.
          let pieces = histories_parts g.T.Ord.cmp k (map (made_from old) ys) (made_from old r) (subst (AreHistories g.T.Ord.cmp k) (map_push (made_from old) ys r) all) in
          c.put_one.ensures.known k (was.known k before pieces.0) (subst (IsHistory g.T.Ord.cmp k) (sym same) pieces.1);
      kept = λ i key p. c.put_one.ensures.kept i key (was.kept i key p);
    }

-- at the end of the loop all are put
pub returns-clause-known : goal.returns-clause-known
returns-clause-known g c k old all =
    let none : into_iter_items c.loop-renewal.renewal-iterator ≡ [] = nil_from_length (into_iter_items c.loop-renewal.renewal-iterator) (sym (c.loop-renewal.invariant.left) ∙ c.in-None.ensures.steps.0) in
    let whole : c.args.made.items ≡ c.loop-renewal.yielded = c.loop-renewal.invariant.whole ∙ ap (λ xs. c.loop-renewal.yielded ++ xs) none ∙ append-nil c.loop-renewal.yielded in
    c.loop-renewal.invariant.known k old (subst (λ rs. AreHistories g.T.Ord.cmp k (map (made_from c.args.histories.now.items) rs)) whole all)

pub returns-clause-found : goal.returns-clause-found
returns-clause-found g c key =
    let none : into_iter_items c.loop-renewal.renewal-iterator ≡ [] = nil_from_length (into_iter_items c.loop-renewal.renewal-iterator) (sym (c.loop-renewal.invariant.left) ∙ c.in-None.ensures.steps.0) in
    let whole : c.args.made.items ≡ c.loop-renewal.yielded = c.loop-renewal.invariant.whole ∙ ap (λ xs. c.loop-renewal.yielded ++ xs) none ∙ append-nil c.loop-renewal.yielded in
    rw whole (c.loop-renewal.invariant.found key)
