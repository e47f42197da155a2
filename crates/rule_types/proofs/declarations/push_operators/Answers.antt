use Rattle.std.proofs.Common.{◌++◌, map, refl, ap, ◌∙◌, arith}
use Rattle.std.proofs.lemmas.List.{take_all}
use Rattle.rule_ast.specs.Seen.{seen_operator}
use Rattle.rule_types.specs.Declarations.{operator, placed}
use Rattle.rule_types.specs.SeenDeclarations.{seen_declaration}
use Rattle.rule_types.proofs.PlacedLaws.{pushed-seen}
use Rattle.rule_types.proofs.declarations.push_operators.Goals as goal

pub loop-i-preserved : goal.loop-i-preserved
loop-i-preserved c =
    pushed-seen seen_operator operator seen_declaration c.args.operators.now c.loop-i.i c.index-operators-i.result (map seen_declaration c.args.out.now.items)
    c.loop-i.out.items c.push.new.self.items _ (omega arith) c.index-operators-i.is c.loop-i.invariant c.in_ok-push.ensures.items refl

pub returns : goal.returns
returns c =
    c.loop-i.invariant ∙ ap (λ xs. map seen_declaration c.args.out.now.items ++ map operator (placed (map seen_operator xs))) (take_all _ _ c.loop-i-test.false)
