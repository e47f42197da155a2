-- How many arguments a call is given, and uses over equal parts.
use Rattle.std.proofs.Common.{◌≡◌, List, [], ◌∷◌, length, map, refl, ap, ◌∙◌, arith}
use Rattle.pr_value.specs.Symbols.{Symbol}
use Rattle.pr_value.specs.declared.property.Property.{Property}
use Rattle.rule_ast.specs.Seen.{seen_expr, exprs_of}
use Rattle.rule_ast.specs.declared.expr.Expr as rust
use Rattle.rule_ast.specs.Syntax.{Helper}
use Rattle.rule_types.specs.Conditions.{is_unknown_use}
use Rattle.rule_types.specs.Declarations.{Declaration}
use Rattle.rule_types.specs.Uses.{count, uses}

pub count-exprs_of : (es : List rust.Expr) → count (exprs_of (map seen_expr es)) ≡ length es
count-exprs_of [] = refl
count-exprs_of (e ∷ es) = let rest = count-exprs_of es in omega (arith, rest)

-- uses of what is unknown, over equal parts
pub uses-same : (ps qs : List Property) (hs gs : List Helper) (ds es vs ws : List Symbol) (d : Declaration) → ps ≡ qs → hs ≡ gs → ds ≡ es → vs ≡ ws → uses (is_unknown_use ps hs ds vs) d ≡ uses (is_unknown_use qs gs es ws) d
uses-same ps qs hs gs ds es vs ws d p h e v =
    ap (λ k. uses (is_unknown_use k hs ds vs) d) p ∙ (ap (λ k. uses (is_unknown_use qs k ds vs) d) h ∙ (ap (λ k. uses (is_unknown_use qs gs k vs) d) e ∙ ap (λ k. uses (is_unknown_use qs gs es k) d) v))

pub ruleset use_laws = (count-exprs_of)
