use Rattle.std.proofs.Common.{Ok, Err, length, refl, rules, sym, ◌∙◌}
use Rattle.std.proofs.lemmas.Fn.{always_returns_same}
use Rattle.std.proofs.lemmas.Option.{slice_get_read}
use Rattle.catalog.specs.Keys.{compare_keys}
use Rattle.catalog.proofs.RowOrder.{keys, keys_tie, keys_total}
use Rattle.catalog.proofs.SearchLaws.{find_searched}
use Rattle.catalog.proofs.rows.find_row.Goals as goal

pub returns-in-Ok : goal.returns-in-Ok
returns-in-Ok c =
    let rows = c.args.rows.now in
    let found = find_searched keys_total keys keys_tie rows c.args.keys.now (Ok c.in-Ok.place) c.requires c.in-Ok.ensures.bound
    (c.in-Ok.ensures.position (λ r. compare_keys r.keys c.args.keys.now) (always_returns_same _ _ _ (λ a r t e. search rules))) in
    sym (found ∙ slice_get_read rows (length rows) c.in-Ok.place c.index-rows-place.result refl c.in-Ok.ensures.bound c.index-rows-place.is)

pub returns-in-Err : goal.returns-in-Err
returns-in-Err c =
    sym (find_searched keys_total keys keys_tie c.args.rows.now c.args.keys.now (Err c.in-Err.field-0) c.requires c.in-Err.ensures.bound
    (c.in-Err.ensures.position (λ r. compare_keys r.keys c.args.keys.now) (always_returns_same _ _ _ (λ a r t e. search rules))))
