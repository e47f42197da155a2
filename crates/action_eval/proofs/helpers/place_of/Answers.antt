use Rattle.std.proofs.Common.{◌≡◌, suc, ◌-◌, ◌<◌, length, drop, refl, sym, ap, ◌∙◌, arith}
use Rattle.std.specs.List.{list_any}
use Rattle.std.specs.Str.{bytes_eq}
use Rattle.std.proofs.lemmas.Option.{slice_get_read}
use Rattle.rule_ast.specs.declared.parts.Helper.{Helper}
use Rattle.action_eval.proofs.TypeLaws.{some-same}
use Rattle.action_eval.proofs.helpers.place_of.Goals as goal

pub returns-then-eq-clause-found : goal.returns-then-eq-clause-found
returns-then-eq-clause-found c =
    let within : c.loop-left.left - 1 < length c.args.helpers.now = omega (arith, c.loop-left.invariant.within, c.loop-left-test.true) in
    let behind : suc (c.loop-left.left - 1) ≡ c.loop-left.left = omega (arith, c.loop-left-test.true) in
    let read = slice_get_read c.args.helpers.now _ (c.loop-left.left - 1) c.index-helpers-left.result refl within c.index-helpers-left.is in
    record {
      within = within;
      named =
          λ h there.
          ap (λ (g : Helper). bytes_eq g.name c.args.name.now) (some-same (sym there ∙ read))
          ∙ ap (λ (g : Helper). bytes_eq g.name c.args.name.now) c.index-helpers-left.is ∙ sym c.eq.ensures ∙ c.if-eq.true;
      latest = ap (λ n. list_any (λ (g : Helper). bytes_eq g.name c.args.name.now) (drop n c.args.helpers.now)) behind ∙ c.loop-left.invariant.others;
    }
