use Rattle.std.proofs.Common.{List, map, ap, sym, ◌∙◌}
use Rattle.derivation.proofs.StandsLaws.{stands_for}
use Rattle.rule_ast.specs.Seen.{seen_operator, seen_trule}
use Rattle.rule_ast.specs.SeenRules.{seen_rules}
use Rattle.rule_ast.specs.declared.parts.Operator as operator
use Rattle.rule_runs.specs.SeenSides.{seen_side}
use Rattle.rule_runs.specs.Sides.{left_side}
use Rattle.tree_terms.proofs.TermStepLaws.{found-at, match-fit, matched-many, matched-slots, steps-rewritten, steps-unfit}
use Rattle.tree_terms.proofs.tree_steps.step_by.Goals as goal

pub returns-then-not-is_match_fit-clause-step : goal.returns-then-not-is_match_fit-clause-step
returns-then-not-is_match_fit-clause-step c =
    let r = seen_rules c.args.under.now.rules.now in
    let t = seen_trule c.args.rule.now in
    let p = left_side r.operators t.left in
    let side = c.in_ok-side.ensures ∙ ap (λ (os : List operator.Operator). left_side (map seen_operator os) t.left) c.as_slice.ensures in
    let tells = found-at r p (seen_side c.in_ok-side.side) c.args.terms.now c.args.node c.in_ok-found.field-0 c.in-Some.found side c.in_ok-found.ensures c.in-Some.is in
    steps-unfit r c.args.under.now.catalog.now t c.args.terms.now c.args.node c.in-Some.found tells c.args.under.now.layout.now c.is_match_fit.result c.args.under.now.laid_out c.is_match_fit.ensures c.if-not-is_match_fit.true

pub rewritten_term-requires-clause-slots : goal.rewritten_term-requires-clause-slots
rewritten_term-requires-clause-slots c =
    let r = seen_rules c.args.under.now.rules.now in
    let t = seen_trule c.args.rule.now in
    let p = left_side r.operators t.left in
    let side = c.in_ok-side.ensures ∙ ap (λ (os : List operator.Operator). left_side (map seen_operator os) t.left) c.as_slice.ensures in
    let tells = found-at r p (seen_side c.in_ok-side.side) c.args.terms.now c.args.node c.in_ok-found.field-0 c.in-Some.found side c.in_ok-found.ensures c.in-Some.is in
    let u = stands_for c.args.terms.now c.sound.ensures.earlier c.args.node c.requires.node in
    let fit = match-fit r p c.args.terms.now c.in-Some.found u.0 c.args.under.now.layout.now c.is_match_fit.result c.args.under.now.laid_out c.is_match_fit.ensures (tells u.0 u.1) in
    matched-slots r t c.args.terms.now c.in-Some.found u.0 (tells u.0 u.1) (sym fit ∙ c.if-not-is_match_fit.false)

pub rewritten_term-requires-clause-as_many : goal.rewritten_term-requires-clause-as_many
rewritten_term-requires-clause-as_many c =
    let r = seen_rules c.args.under.now.rules.now in
    let t = seen_trule c.args.rule.now in
    let p = left_side r.operators t.left in
    let side = c.in_ok-side.ensures ∙ ap (λ (os : List operator.Operator). left_side (map seen_operator os) t.left) c.as_slice.ensures in
    let tells = found-at r p (seen_side c.in_ok-side.side) c.args.terms.now c.args.node c.in_ok-found.field-0 c.in-Some.found side c.in_ok-found.ensures c.in-Some.is in
    let u = stands_for c.args.terms.now c.sound.ensures.earlier c.args.node c.requires.node in
    matched-many r t c.args.terms.now c.in-Some.found u.0 (tells u.0 u.1)

pub rewritten_term-requires-clause-stand : goal.rewritten_term-requires-clause-stand
rewritten_term-requires-clause-stand c =
    let r = seen_rules c.args.under.now.rules.now in
    let t = seen_trule c.args.rule.now in
    let p = left_side r.operators t.left in
    let side = c.in_ok-side.ensures ∙ ap (λ (os : List operator.Operator). left_side (map seen_operator os) t.left) c.as_slice.ensures in
    let tells = found-at r p (seen_side c.in_ok-side.side) c.args.terms.now c.args.node c.in_ok-found.field-0 c.in-Some.found side c.in_ok-found.ensures c.in-Some.is in
    let u = stands_for c.args.terms.now c.sound.ensures.earlier c.args.node c.requires.node in
    let m = tells u.0 u.1 in
    (m.match.streams, m.stand)

pub returns-clause-step : goal.returns-clause-step
returns-clause-step c =
    let r = seen_rules c.args.under.now.rules.now in
    let t = seen_trule c.args.rule.now in
    let p = left_side r.operators t.left in
    let side = c.in_ok-side.ensures ∙ ap (λ (os : List operator.Operator). left_side (map seen_operator os) t.left) c.as_slice.ensures in
    let tells = found-at r p (seen_side c.in_ok-side.side) c.args.terms.now c.args.node c.in_ok-found.field-0 c.in-Some.found side c.in_ok-found.ensures c.in-Some.is in
    let u = stands_for c.args.terms.now c.sound.ensures.earlier c.args.node c.requires.node in
    steps-rewritten r c.args.under.now.catalog.now t c.args.terms.now c.args.node c.in-Some.found tells
    (λ v k. sym (match-fit r p c.args.terms.now c.in-Some.found v c.args.under.now.layout.now c.is_match_fit.result c.args.under.now.laid_out c.is_match_fit.ensures (tells v k)) ∙ c.if-not-is_match_fit.false) u.0 u.1 c.rewritten_term.new.terms c.in_ok-made.made c.in_ok-made.ensures.made
