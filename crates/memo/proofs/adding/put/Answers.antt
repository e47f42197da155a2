use Rattle.std.proofs.Common.{rules, ◌≡◌, length, true, None, refl, subst}
use Rattle.memo.specs.declared.expr.Expr.{Expr}
use Rattle.memo.specs.Forest.{IsKnownOf}
use Rattle.memo.proofs.AddLaws.{ends_still, put_fits, forest_put, put_fact}
use Rattle.memo.proofs.KeepLaws.{forest_grew}
use Rattle.memo.proofs.LearnLaws.{forest_noted}
use Rattle.memo.proofs.adding.put.Goals as goal

pub returns-then-is_known-clause-forest : goal.returns-then-is_known-clause-forest
returns-then-is_known-clause-forest g c =
    let e : Expr g.row.L.Denot = record { label = c.args.label; inputs = c.args.inputs; line = c.args.line; tree = c.args.tree; class = c.len-class.result; home = c.in_ok-home.home; live = true } in
    let old = c.args.log.now in
    let new = c.still.new.log in
    let grew = c.in_ok-home.ensures.grew in
    let home = c.in_ok-home.ensures.line c.args.tree c.requires.ends in
    let fits = put_fits old new c.args.exprs.now.items c.args.known.now.items e grew c.requires.fit in
    let own : c.len-class.result ≡ length c.args.exprs.now.items = (let h = c.len-class.ensures in search rules) in
    let put =
    forest_put new.terms new.lines c.args.exprs.now.items c.push.new.self.items c.args.known.now.items e c.in_ok-push.ensures.items own home
    (ends_still old new c.args.line c.args.tree grew c.requires.ends) fits (forest_grew old new c.args.exprs.now.items c.args.known.now.items grew c.requires.forest)
    in
    put

pub returns-then-is_known-clause-put : goal.returns-then-is_known-clause-put
returns-then-is_known-clause-put g c = (
  record { label = c.args.label; inputs = c.args.inputs; line = c.args.line; tree = c.args.tree; class = c.len-class.result; home = c.in_ok-home.home; live = true },
  c.in_ok-push.ensures.items,
  (let h = c.len-class.ensures in search rules),
  refl,
  refl,
  refl,
  refl,
  refl,
)

pub returns-clause-forest : goal.returns-clause-forest
returns-clause-forest g c =
    let e : Expr g.row.L.Denot = record { label = c.args.label; inputs = c.args.inputs; line = c.args.line; tree = c.args.tree; class = c.len-class.result; home = c.in_ok-home.home; live = true } in
    let old = c.args.log.now in
    let new = c.still.new.log in
    let grew = c.in_ok-home.ensures.grew in
    let home = c.in_ok-home.ensures.line c.args.tree c.requires.ends in
    let fits = put_fits old new c.args.exprs.now.items c.args.known.now.items e grew c.requires.fit in
    let own : c.len-class.result ≡ length c.args.exprs.now.items = (let h = c.len-class.ensures in search rules) in
    let put =
    forest_put new.terms new.lines c.args.exprs.now.items c.push.new.self.items c.args.known.now.items e c.in_ok-push.ensures.items own home
    (ends_still old new c.args.line c.args.tree grew c.requires.ends) fits (forest_grew old new c.args.exprs.now.items c.args.known.now.items grew c.requires.forest)
    in
    forest_noted new.terms new.lines c.push.new.self.items c.args.known.now.items c.note_known.new.known.items c.args.tree (record { expr = c.len-class.result; line = c.in_ok-home.home })
    (subst (λ ks. IsKnownOf ks c.args.tree None) c.as_slice.ensures.value (c.is_known.ensures.no c.if-is_known.false)) c.in_ok-note_known.ensures put
    (put_fact new.terms new.lines c.args.exprs.now.items c.push.new.self.items c.args.known.now.items e c.in_ok-push.ensures.items own home fits)

pub returns-clause-put : goal.returns-clause-put
returns-clause-put g c = (
  record { label = c.args.label; inputs = c.args.inputs; line = c.args.line; tree = c.args.tree; class = c.len-class.result; home = c.in_ok-home.home; live = true },
  c.in_ok-push.ensures.items,
  (let h = c.len-class.ensures in search rules),
  refl,
  refl,
  refl,
  refl,
  refl,
)
