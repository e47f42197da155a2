use Rattle.std.proofs.Common.{◌++◌, map, refl, ap, ◌∙◌, arith}
use Rattle.std.proofs.lemmas.List.{take_all}
use Rattle.rule_types.specs.Declarations.{algorithm, placed}
use Rattle.rule_types.specs.SeenDeclarations.{seen_declaration}
use Rattle.rule_types.proofs.PlacedLaws.{pushed}
use Rattle.rule_types.proofs.declarations.push_algorithms.Goals as goal

pub loop-i-preserved : goal.loop-i-preserved
loop-i-preserved c =
    pushed algorithm seen_declaration c.args.algorithms.now c.loop-i.i c.index-algorithms-i.result (map seen_declaration c.args.out.now.items)
    c.loop-i.out.items c.push.new.self.items _ (omega arith) c.index-algorithms-i.is c.loop-i.invariant c.in_ok-push.ensures.items refl

pub returns : goal.returns
returns c =
    c.loop-i.invariant ∙ ap (λ xs. map seen_declaration c.args.out.now.items ++ map algorithm (placed xs)) (take_all _ _ c.loop-i-test.false)
