use Rattle.std.proofs.Common.{◌++◌, map, refl, ap, ◌∙◌, arith}
use Rattle.std.proofs.lemmas.List.{take_all}
use Rattle.rule_types.specs.Declarations.{property, placed}
use Rattle.rule_types.specs.SeenDeclarations.{seen_declaration}
use Rattle.rule_types.proofs.PlacedLaws.{pushed}
use Rattle.rule_types.proofs.declarations.push_properties.Goals as goal

pub loop-i-preserved : goal.loop-i-preserved
loop-i-preserved c =
    pushed property seen_declaration c.args.properties.now c.loop-i.i c.index-properties-i.result (map seen_declaration c.args.out.now.items)
    c.loop-i.out.items c.push.new.self.items _ (omega arith) c.index-properties-i.is c.loop-i.invariant c.in_ok-push.ensures.items refl

pub returns : goal.returns
returns c =
    c.loop-i.invariant ∙ ap (λ xs. map seen_declaration c.args.out.now.items ++ map property (placed xs)) (take_all _ _ c.loop-i-test.false)
