use Rattle.std.proofs.Common.{map, refl}
use Rattle.std.specs.List.{list_any}
use Rattle.rule_ast.specs.Seen.{seen_stmt}
use Rattle.rule_types.specs.Uses.{any_use_in}
use Rattle.rule_types.proofs.StepLaws.{rest-found, rest-more, rest-none}
use Rattle.rule_types.proofs.uses.any_use_in_stmts.Goals as goal

pub loop-s-preserved : goal.loop-s-preserved
loop-s-preserved g c =
    let asks = any_use_in (g.Q.UseQuestion.asked c.args.question.now) in
    rest-more (λ s. asks (seen_stmt s)) (λ ss. list_any asks (map seen_stmt ss)) (λ s ss. refl) c.args.ss.now c.loop-s.s-index c.loop-s.invariant c.s-item.result c.loop-s-test.true c.s-item.is c.any_use_in.ensures c.if-any_use_in.false

pub returns-then-any_use_in : goal.returns-then-any_use_in
returns-then-any_use_in g c =
    let asks = any_use_in (g.Q.UseQuestion.asked c.args.question.now) in
    rest-found (λ s. asks (seen_stmt s)) (λ ss. list_any asks (map seen_stmt ss)) (λ s ss. refl) c.args.ss.now c.loop-s.s-index c.loop-s.invariant c.s-item.result c.loop-s-test.true c.s-item.is c.any_use_in.ensures c.if-any_use_in.true

pub returns : goal.returns
returns g c =
    let asks = any_use_in (g.Q.UseQuestion.asked c.args.question.now) in
    rest-none (λ s. asks (seen_stmt s)) (λ ss. list_any asks (map seen_stmt ss)) (λ s ss. refl) c.args.ss.now c.loop-s.s-index c.loop-s.invariant refl c.loop-s-test.false
