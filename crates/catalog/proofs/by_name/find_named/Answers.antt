use Rattle.std.proofs.Common.{Ok, Err, length, refl, rules, sym, ◌∙◌}
use Rattle.std.specs.Cmp.Lexicographic.{nat_list_cmp_total, texts_ties}
use Rattle.std.proofs.lemmas.Fn.{always_returns_same}
use Rattle.std.proofs.lemmas.Option.{slice_get_read}
use Rattle.pr_value.specs.SymbolSets.{compare_symbols}
use Rattle.catalog.proofs.SearchLaws.{find_searched}
use Rattle.catalog.proofs.by_name.find_named.Goals as goal

pub returns-in-Ok : goal.returns-in-Ok
returns-in-Ok g c =
    let xs = c.args.items.now in
    let found = find_searched nat_list_cmp_total g.T.Named.name texts_ties xs c.args.name.now (Ok c.in-Ok.place) c.requires c.in-Ok.ensures.bound
    (c.in-Ok.ensures.position (λ x. compare_symbols (g.T.Named.name x) c.args.name.now) (always_returns_same _ _ _ (λ a r t e. search rules))) in
    sym (found ∙ slice_get_read xs (length xs) c.in-Ok.place _ refl c.in-Ok.ensures.bound c.index-items-place.is)

pub returns-in-Err : goal.returns-in-Err
returns-in-Err g c =
    sym (find_searched nat_list_cmp_total g.T.Named.name texts_ties c.args.items.now c.args.name.now (Err c.in-Err.field-0) c.requires c.in-Err.ensures.bound
    (c.in-Err.ensures.position (λ x. compare_symbols (g.T.Named.name x) c.args.name.now) (always_returns_same _ _ _ (λ a r t e. search rules))))
