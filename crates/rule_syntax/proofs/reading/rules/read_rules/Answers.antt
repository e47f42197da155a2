use Rattle.std.proofs.Common.{◌≡◌, ◌≢◌, None, Some, refl, ap, sym, ◌∙◌, subst}
use Rattle.rule_syntax.specs.declared.error.SyntaxError.{SyntaxError}
use Rattle.rule_syntax.specs.declared.error.SyntaxError.TheVariants.{Memory}
use Rattle.rule_syntax.specs.declared.reading.stop.Stop.{Stop}
use Rattle.rule_syntax.specs.declared.reading.stop.Stop.TheVariants as stop
use Rattle.rule_ast.specs.Syntax.{Rules}
use Rattle.rule_syntax.specs.Tokens.{Text}
use Rattle.rule_syntax.specs.Levels.{most_levels, IsRules}
use Rattle.rule_syntax.specs.Reading.{Fails}
use Rattle.rule_syntax.specs.ReadingRules.{rules_at}
use Rattle.rule_ast.specs.SeenRules.{seen_rules}
use Rattle.rule_syntax.proofs.TokenLaws.{some_same}
use Rattle.rule_syntax.proofs.RulesLaws.{rules_found, rules_again}
use Rattle.rule_syntax.proofs.reading.rules.read_rules.Goals as goal

found : (us ts : Text) → us ≡ ts → (r : Rules) → rules_at most_levels us ≡ Some r → IsRules r ts
found us ts same r e = subst (λ (vs : Text). IsRules r vs) same (rules_found us r e)

only : (us ts : Text) → us ≡ ts → (r : Rules) → rules_at most_levels us ≡ Some r → (s : Rules) → IsRules s ts → s ≡ r
only us ts same r e s is = some_same s r (sym (rules_again ts s is) ∙ ap (rules_at most_levels) (sym same) ∙ e)

unread : (us ts : Text) → us ≡ ts → rules_at most_levels us ≡ None → (s : Rules) → IsRules s ts → ⊥
unread us ts same nothing s is = let e = sym (rules_again ts s is) ∙ ap (rules_at most_levels) (sym same) ∙ nothing in cc e

refused : (us ts : Text) → us ≡ ts → (s : Stop) (e : SyntaxError) → Fails s (rules_at most_levels us) → (s ≡ stop.Memory → e ≡ Memory) → e ≢ Memory → (r : Rules) → IsRules r ts → ⊥
refused us ts same (stop.Bad left) e fails memory other = unread us ts same fails
refused us ts same (stop.Deep left) e fails memory other = unread us ts same fails
refused us ts same stop.Memory e fails memory other = λ r is. other (memory refl)

pub returns-in-Ok-clause-found : goal.returns-in-Ok-clause-found
returns-in-Ok-clause-found c = found c.as_slice.result.now _ c.as_slice.ensures (seen_rules c.in-Ok.rules) c.in-Ok.ensures

pub returns-in-Ok-clause-only : goal.returns-in-Ok-clause-only
returns-in-Ok-clause-only c = only c.as_slice.result.now _ c.as_slice.ensures (seen_rules c.in-Ok.rules) c.in-Ok.ensures

pub returns-in-Err-clause-refused : goal.returns-in-Err-clause-refused
returns-in-Err-clause-refused c = refused c.as_slice.result.now _ c.as_slice.ensures c.in-Err.stop c.refusal.result c.in-Err.ensures (c.refusal.ensures.memory.1)
