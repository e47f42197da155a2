-- What the reader of a rule set does. The number is that of the levels that expressions and sides may have.
use Rattle.std.specs.Prelude.{ℕ, Option, Some, codes}
use Rattle.pr_value.specs.declared.token.Mark.TheVariants as mark
use Rattle.rule_ast.specs.Syntax.{TRule, IRule, Rules}
use Rattle.rule_syntax.specs.Tokens.{Text}
use Rattle.rule_syntax.specs.Reading.{◌>>=◌, Reader, mark_at, word_at, name_at, alone}
use Rattle.rule_syntax.specs.ReadingParts.{body_at, section_at, property_at, operator_at, algorithm_at, helper_at}
use Rattle.rule_syntax.specs.ReadingSides.{left_at, right_at, impl_at}

-- trule = "trule" NAME ":" left "=>" right body
abbrev pub trule_at : ℕ → Reader TRule
trule_at n ts =
    word_at (codes "trule") ts >>= (λ r. name_at r >>= (λ t. mark_at mark.Colon t.1 >>= (λ s. left_at n s >>= (λ l. mark_at mark.Arrow l.1 >>= (λ u. right_at n u >>= (λ g. body_at n g.1 >>= (λ b.
    Some (record { name = t.0; left = l.0; right = g.0; body = b.0 }, b.1))))))))

-- irule = "irule" NAME ":" left "=>" impl body
abbrev pub irule_at : ℕ → Reader IRule
irule_at n ts =
    word_at (codes "irule") ts >>= (λ r. name_at r >>= (λ t. mark_at mark.Colon t.1 >>= (λ s. left_at n s >>= (λ l. mark_at mark.Arrow l.1 >>= (λ u. impl_at u >>= (λ g. body_at n g.1 >>= (λ b.
    Some (record { name = t.0; left = l.0; right = g.0; body = b.0 }, b.1))))))))

-- { property } { operator } { algorithm } { helper } { trule } { irule }
abbrev pub sections_at : ℕ → Reader Rules
sections_at n ts =
    section_at (codes "property") property_at ts >>= (λ p. section_at (codes "operator") (operator_at n) p.1 >>= (λ o. section_at (codes "algorithm") algorithm_at o.1 >>= (λ a.
    section_at (codes "helper") (helper_at n) a.1 >>= (λ h. section_at (codes "trule") (trule_at n) h.1 >>= (λ t. section_at (codes "irule") (irule_at n) t.1 >>= (λ i.
    Some (record { properties = p.0; operators = o.0; algorithms = a.0; helpers = h.0; trules = t.0; irules = i.0 }, i.1)))))))

-- a rule set, where nothing is left behind it
abbrev pub rules_at : ℕ → Text → Option Rules
rules_at n ts = sections_at n ts >>= alone
