use Rattle.std.proofs.Common.{◌≡◌, ◌<◌, ◌∙◌, sym, length, ◌∷◌, [], ◌++◌, get_or, to_z, of_z, w64, FitsSigned, arith, rules, length-set}
use Rattle.std.proofs.lemmas.List.{take_more_set, map_more}
use Rattle.std.proofs.lemmas.Int.{to_z-of_z}
use Rattle.row.specs.declared.projection.Item.TheVariants.{Column}
use Rattle.row.specs.Projection.{item_value}
use Rattle.row.proofs.projection.project.Goals as goal

pub loop-i-preserved : goal.loop-i-preserved
loop-i-preserved c =
    let row = c.args.row.now in
    let items = c.args.items.now in
    let values = c.loop-i.values in
    let i = c.loop-i.i in
    let fits : FitsSigned w64 c.value.result = search rules in
    let value : to_z w64 (of_z w64 c.value.result) ≡ item_value (get_or items i (Column 0)) row = to_z-of_z w64 _ fits ∙ c.value.ensures in
    let room : i < length values = omega arith in
    record {
      room = length-set values i _ ∙ c.loop-i.invariant.room;
      made = take_more_set values i _ room
          ∙ (λ j. c.loop-i.invariant.made j ++ (value j ∷ []))
          ∙ sym (map_more (λ item. item_value item row) items i (Column 0) c.loop-i-test.true);
    }
