use Rattle.std.proofs.Common.{◌≡◌, ◌<◌, ◌≤◌, ◌+◌, ◌++◌, ◌∷◌, [], sym, ◌∙◌, ap, length, get_or, take, pos, length-set, length-take-le, take_all, FitsSigned, w64, arith, rules}
use Rattle.std.proofs.lemmas.List.{append-nil, get_or_push, take_more_set, length_push}
use Rattle.std.proofs.lemmas.Int.{to_z-of_z}
use Rattle.std.proofs.lemmas.List.Elements.{All-set, All-push, All-same}
use Rattle.columns.proofs.TableLemmas.{row_kept, item_put, row_put}
use Rattle.columns.proofs.table.put_row.Goals as goal

pub returns-in_err-put-clause-kept : goal.returns-in_err-put-clause-kept
returns-in_err-put-clause-kept c place width l =
    let columns = c.loop-i.columns.items in
    let i = c.loop-i.i in
    let old = c.index_mut.result.now in
    let new = c.put.new.self in
    let inside : i < length columns = search rules in
    let long : c.args.height ≤ length old = search rules in
    row_kept columns i c.args.height old [] new inside c.index_mut.ensures.value long (c.in_err-put.ensures.kept ∙ sym (append-nil (take c.args.height old))) place width l
    ∙ c.loop-i.invariant.kept place width l

pub loop-i-preserved : goal.loop-i-preserved
loop-i-preserved c =
    let columns = c.loop-i.columns.items in
    let i = c.loop-i.i in
    let height = c.args.height in
    let old = c.index_mut.result.now in
    let new = c.put.new.self in
    let item = c.item_or_zero.result in
    let inside : i < length columns = search rules in
    let long : height ≤ length old = search rules in
    let cut = length-take-le height old long in
    let fits : FitsSigned w64 item = search rules in
    let put : new ≡ take height old ++ item ∷ [] = c.in_ok-put.ensures.put ∙ ap (λ z. take height old ++ z ∷ []) (to_z-of_z w64 item fits) in
    let longer : length new ≡ height + 1 = ap length put ∙ length_push (take height old) item ∙ ap (λ n. n + 1) cut in
    record {
      end = c.loop-i.invariant.end;
      same = length-set columns i new ∙ c.loop-i.invariant.same;
      long = All-set (λ column. height ≤ length column) columns i new (omega (arith, longer)) c.loop-i.invariant.long;
      longer = All-same (λ column. height < length column) _ _ (take_more_set columns i new inside) (All-push (λ column. height < length column) _ new c.loop-i.invariant.longer (omega (arith, longer)));
      kept = λ place width l. row_kept columns i height old (item ∷ []) new inside c.index_mut.ensures.value long put place width l ∙ c.loop-i.invariant.kept place width l;
      put = item_put columns i height new c.args.row.now inside (ap (λ column. get_or column height (pos 0)) put ∙ get_or_push (take height old) item (pos 0) height cut ∙ c.item_or_zero.ensures) c.loop-i.invariant.put;
    }

pub returns-clause-longer : goal.returns-clause-longer
returns-clause-longer c =
    let columns = c.loop-i.columns.items in
    let i = c.loop-i.i in
    let all : length columns ≤ i = search rules in
    All-same (λ column. c.args.height < length column) columns (take i columns) (sym (take_all i columns all)) c.loop-i.invariant.longer

pub returns-clause-put : goal.returns-clause-put
returns-clause-put c l =
    let columns = c.loop-i.columns.items in
    let all : length columns ≤ c.loop-i.i = search rules in
    let same = c.loop-i.invariant.same in
    row_put columns c.args.height c.args.row.now (omega (arith, l, same)) (λ i d h. c.loop-i.invariant.put i d (omega (arith, h, all)))
