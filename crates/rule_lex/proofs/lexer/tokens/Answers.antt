use Rattle.std.proofs.Common.{◌≡◌, ◌-◌, ◌<◌, [], length, ap, ◌∙◌, arith, rules, tests}
use Rattle.std.proofs.lemmas.Result.{err_from_is_err_and}
use Rattle.std.proofs.lemmas.List.{nil_from_length}
use Rattle.pr_value.specs.Placed.{Placed}
use Rattle.rule_lex.specs.Gaps.{after_gap}
use Rattle.rule_lex.proofs.LexesLaws.{only, none}
use Rattle.rule_lex.proofs.StepLaws.{leads_on, lexes, refuses, lexeme_shorter}
use Rattle.rule_lex.proofs.lexer.tokens.Goals as goal

pub returns-in_err-token-clause-none : goal.returns-in_err-token-clause-none
returns-in_err-token-clause-none c =
    let p = err_from_is_err_and c.from_residual.result c.from_residual.ensures.1 in
    let text = c.args.text.now in
    let here = c.loop-rest.rest.now in
    rw (p.1, p.2) (λ m. none text c.in_err-token.field-0.0 (refuses text c.loop-rest.out.placed here (length text - length here) c.in_err-token.field-0.0 c.loop-rest.invariant.leads (omega arith) (c.in_err-token.ensures.fault m)))

pub loop-rest-preserved : goal.loop-rest-preserved
loop-rest-preserved c =
    let text = c.args.text.now in
    let here = c.loop-rest.rest.now in
    let less : length c.in_ok-token.after.now < length here = lexeme_shorter here c.in_ok-token.token c.in_ok-token.after.now c.in_ok-token.ensures.token.0 in
    record {
      end = ap (λ (ts : Placed). ts.end) c.in_ok-push.ensures.ok ∙ c.loop-rest.invariant.end;
      within = omega (arith, less, c.after_gap-rest-in-loop-rest.ensures.within);
      leads = leads_on (length text) (after_gap text) c.loop-rest.out.placed c.push.new.self.placed here c.in_ok-token.token (length text - length here) c.in_ok-token.after.now c.after_gap-rest-in-loop-rest.result.now c.loop-rest.invariant.leads c.in_ok-token.ensures.token (omega arith) (ap (λ (ts : Placed). ts.placed) c.in_ok-push.ensures.ok) c.after_gap-rest-in-loop-rest.ensures.gap;
    }

pub returns-clause-only : goal.returns-clause-only
returns-clause-only c =
    let ended : c.loop-rest.rest.now ≡ [] = nil_from_length c.loop-rest.rest.now (search (rules, tests)) in
    only c.args.text.now c.loop-rest.out.placed (lexes c.args.text.now c.loop-rest.out.placed c.loop-rest.rest.now c.loop-rest.invariant.leads ended)
