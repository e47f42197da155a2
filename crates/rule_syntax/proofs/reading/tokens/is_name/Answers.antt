use Rattle.std.proofs.Common.{◌≡◌, Bool, true, ap, ◌∙◌}
use Rattle.std.specs.Prelude.{not}
use Rattle.std.specs.Str.{bytes_eq}
use Rattle.pr_value.specs.Symbols.{Symbol, is_name, is_symbol, dash}
use Rattle.rule_syntax.proofs.TokenLaws.{not_dash}
use Rattle.rule_syntax.proofs.reading.tokens.is_name.Goals as goal

name_of : (s t u : Symbol) (r : Bool) → t ≡ s → u ≡ dash → is_symbol s ≡ true → r ≡ not (bytes_eq t u) → r ≡ is_name s
name_of s t u r e f h g = g ∙ ap (λ x. not (bytes_eq x u)) e ∙ ap (λ x. not (bytes_eq s x)) f ∙ not_dash s h

pub returns : goal.returns
returns c = name_of c.args.s.now c.as_slice.result.now c.as_slice-2.result.now c.ne.result c.as_slice.ensures.same c.as_slice-2.ensures c.as_slice.ensures.symbol c.ne.ensures
