use Rattle.std.proofs.Common.{◌≡◌, ◌≢◌, None, Some, refl, ap, sym, ◌∙◌, subst}
use Rattle.rule_syntax.specs.declared.error.SyntaxError.{SyntaxError}
use Rattle.rule_syntax.specs.declared.error.SyntaxError.TheVariants.{Memory}
use Rattle.rule_syntax.specs.declared.reading.stop.Stop.{Stop}
use Rattle.rule_syntax.specs.declared.reading.stop.Stop.TheVariants as stop
use Rattle.rule_ast.specs.Syntax.{Query}
use Rattle.rule_syntax.specs.Tokens.{Text}
use Rattle.rule_syntax.specs.Levels.{IsQuery}
use Rattle.rule_syntax.specs.Reading.{Fails}
use Rattle.rule_syntax.specs.ReadingQuery.{whole_query_at}
use Rattle.rule_ast.specs.Seen.{seen_query}
use Rattle.rule_syntax.proofs.TokenLaws.{some_same}
use Rattle.rule_syntax.proofs.QueryLaws.{query_found, query_again}
use Rattle.rule_syntax.proofs.reading.query.read_query.Goals as goal

found : (us ts : Text) → us ≡ ts → (q : Query) → whole_query_at us ≡ Some q → IsQuery q ts
found us ts same q e = subst (λ (vs : Text). IsQuery q vs) same (query_found us q e)

only : (us ts : Text) → us ≡ ts → (q : Query) → whole_query_at us ≡ Some q → (s : Query) → IsQuery s ts → s ≡ q
only us ts same q e s is = some_same s q (sym (query_again ts s is) ∙ ap whole_query_at (sym same) ∙ e)

unread : (us ts : Text) → us ≡ ts → whole_query_at us ≡ None → (s : Query) → IsQuery s ts → ⊥
unread us ts same nothing s is = let e = sym (query_again ts s is) ∙ ap whole_query_at (sym same) ∙ nothing in cc e

refused : (us ts : Text) → us ≡ ts → (s : Stop) (e : SyntaxError) → Fails s (whole_query_at us) → (s ≡ stop.Memory → e ≡ Memory) → e ≢ Memory → (q : Query) → IsQuery q ts → ⊥
refused us ts same (stop.Bad left) e fails memory other = unread us ts same fails
refused us ts same (stop.Deep left) e fails memory other = unread us ts same fails
refused us ts same stop.Memory e fails memory other = λ q is. other (memory refl)

pub returns-in-Ok-clause-found : goal.returns-in-Ok-clause-found
returns-in-Ok-clause-found c = found c.as_slice.result.now _ c.as_slice.ensures (seen_query c.in-Ok.query) c.in-Ok.ensures

pub returns-in-Ok-clause-only : goal.returns-in-Ok-clause-only
returns-in-Ok-clause-only c = only c.as_slice.result.now _ c.as_slice.ensures (seen_query c.in-Ok.query) c.in-Ok.ensures

pub returns-in-Err-clause-refused : goal.returns-in-Err-clause-refused
returns-in-Err-clause-refused c = refused c.as_slice.result.now _ c.as_slice.ensures c.in-Err.stop c.refusal.result c.in-Err.ensures (c.refusal.ensures.memory.1)

pub returns-in-Ok-clause-spelled : goal.returns-in-Ok-clause-spelled
returns-in-Ok-clause-spelled c = (found c.as_slice.result.now _ c.as_slice.ensures (seen_query c.in-Ok.query) c.in-Ok.ensures).spelled
