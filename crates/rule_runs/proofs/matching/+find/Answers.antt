use Rattle.std.proofs.Common.{Some, None, cond, map, ap, sym, ◌∙◌}
use Rattle.std.proofs.lemmas.List.{length-map}
use Rattle.rule_runs.specs.SeenMatches.{seen_matched}
use Rattle.rule_runs.specs.SeenSides.{seen_side}
use Rattle.rule_runs.proofs.FindLaws.{comes-more, comes-none, drop-get, none-counted, seen-at}
use Rattle.rule_runs.proofs.matching.+find.Goals as goal

pub find_all-returns-then-sides-count : goal.find_all-returns-then-sides-count
find_all-returns-then-sides-count g t c =
    let roots = g.R.Roots.roots c.args.roots.now in
    none-counted roots (map seen_side c.args.sides.now) (roots.inputs (g.R.Roots.seen c.args.a)) (seen_matched g.R.Roots.seen c.args.out.now)
    (λ e. c.if-sides-count.true (sym (length-map c.args.sides.now seen_side) ∙ (e ∙ sym c.count.ensures)))

pub find_all-returns-then-not-branch : goal.find_all-returns-then-not-branch
find_all-returns-then-not-branch g t c =
    let roots = g.R.Roots.roots c.args.roots.now in
    let seen = g.R.Roots.seen in
    let things = roots.inputs (seen c.args.a) in
    let place = c.loop-place.place in
    comes-none roots (map seen_side c.args.sides.now) things place (seen_side c.index-sides-place.result) (seen c.input.result) (seen_matched seen c.args.out.now) (seen_matched seen c.loop-place.out)
    (seen-at seen_side c.args.sides.now place c.index-sides-place.result c.loop-place-test.true c.index-sides-place.is) (drop-get things place (seen c.input.result) c.input.ensures)
    c.loop-place.invariant (c.in_ok-find.ensures ∙ ap (λ b. cond b (Some (seen_matched seen c.find.new.out)) None) c.if-not-branch.true)

pub find_all-loop-place-preserved : goal.find_all-loop-place-preserved
find_all-loop-place-preserved g t c =
    let roots = g.R.Roots.roots c.args.roots.now in
    let seen = g.R.Roots.seen in
    let things = roots.inputs (seen c.args.a) in
    let place = c.loop-place.place in
    comes-more roots (map seen_side c.args.sides.now) things place (seen_side c.index-sides-place.result) (seen c.input.result) (seen_matched seen c.args.out.now) (seen_matched seen c.loop-place.out) (seen_matched seen c.find.new.out)
    (seen-at seen_side c.args.sides.now place c.index-sides-place.result c.loop-place-test.true c.index-sides-place.is) (drop-get things place (seen c.input.result) c.input.ensures)
    c.loop-place.invariant (c.in_ok-find.ensures ∙ ap (λ b. cond b (Some (seen_matched seen c.find.new.out)) None) c.if-not-branch.false)
