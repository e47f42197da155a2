use Rattle.std.proofs.Common.{◌++◌, map, refl, ap, ◌∙◌, arith}
use Rattle.std.proofs.lemmas.List.{take_all}
use Rattle.rule_ast.specs.Seen.{seen_irule}
use Rattle.rule_types.specs.Declarations.{irule, placed}
use Rattle.rule_types.specs.SeenDeclarations.{seen_declaration}
use Rattle.rule_types.proofs.PlacedLaws.{pushed-seen}
use Rattle.rule_types.proofs.declarations.push_irules.Goals as goal

pub loop-i-preserved : goal.loop-i-preserved
loop-i-preserved c =
    pushed-seen seen_irule irule seen_declaration c.args.irules.now c.loop-i.i c.index-irules-i.result (map seen_declaration c.args.out.now.items)
    c.loop-i.out.items c.push.new.self.items _ (omega arith) c.index-irules-i.is c.loop-i.invariant c.in_ok-push.ensures.items refl

pub returns : goal.returns
returns c =
    c.loop-i.invariant ∙ ap (λ xs. map seen_declaration c.args.out.now.items ++ map irule (placed (map seen_irule xs))) (take_all _ _ c.loop-i-test.false)
