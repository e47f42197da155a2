use Rattle.std.proofs.Common.{rules, refl, ◌∙◌}
use Rattle.indexmap.proofs.CallerLemmas.{insert_entry-new}
use Rattle.memo.proofs.index.enter.Goals as goal

pub returns-in-Some : goal.returns-in-Some
returns-in-Some g c = (refl, c.look_up_laws.ensures.found c.args.index.now.entries c.args.key c.in-Some.f (let v = c.get.ensures.value in let h = c.in-Some.ensures in search rules))

pub returns : goal.returns
returns g c = (
  c.in_ok-insert.ensures.entries ∙ insert_entry-new _ c.args.index.now c.args.key c.args.i (let v = c.get.ensures.value in let h = c.in_default.ensures in search rules),
  c.look_up_laws.ensures.absent c.args.index.now.entries c.args.key (let v = c.get.ensures.value in let h = c.in_default.ensures in search rules),
)
