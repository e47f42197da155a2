-- What the readers of statements and declarations do. The number is that of the levels that expressions may have.
use Rattle.std.specs.Prelude.{ℕ, List, ◌∷◌, length, Some, None, codes}
use Rattle.pr_value.specs.Symbols.{Symbol}
use Rattle.pr_value.specs.declared.token.Token.TheVariants as token
use Rattle.pr_value.specs.declared.token.Mark.TheVariants as mark
use Rattle.pr_value.specs.declared.property.Property.{Property}
use Rattle.rule_ast.specs.declared.parts.Algorithm.{Algorithm}
use Rattle.rule_ast.specs.declared.parts.Param.{Param}
use Rattle.rule_ast.specs.Syntax.{Expr, Stmt, set, copy, Body, Operator, Helper}
use Rattle.rule_syntax.specs.Reading.{◌>>=◌, Reader, mark_at, unmarked, begins, word_at, name_at, number_at, kind_at, filled_at, closed_at, closing, many_at}
use Rattle.rule_syntax.specs.ReadingExpr.{expr_at}

-- as many parts as there are that begin with the word
abbrev pub section_at : {A : Type 0} → Symbol → Reader A → Reader (List A)
section_at word read ts = many_at (begins word) read (length ts) ts

-- what is assigned: "=" expr ";"
unfoldable pub assigned_at : ℕ → Reader Expr
assigned_at n ts = mark_at mark.Assign ts >>= (λ r. expr_at n r >>= (λ e. mark_at mark.Semicolon e.1 >>= (λ s. Some (e.0, s))))

-- what stands behind the name of the descriptor that is changed
unfoldable pub changed_at : ℕ → Symbol → Reader Stmt
changed_at n d (token.Mark mark.Dot ∷ ts) = name_at ts >>= (λ p. assigned_at n p.1 >>= (λ e. Some (set d p.0 e.0, e.1)))
changed_at n d (token.Mark mark.Assign ∷ ts) = name_at ts >>= (λ e. mark_at mark.Semicolon e.1 >>= (λ s. Some (copy d e.0, s)))
changed_at n d ts = None

-- stmt = NAME "." NAME "=" expr ";" | NAME "=" NAME ";"
abbrev pub stmt_at : ℕ → Reader Stmt
stmt_at n ts = name_at ts >>= (λ d. changed_at n d.0 d.1)

-- statements up to a closing brace
abbrev pub stmts_at : ℕ → Reader (List Stmt)
stmts_at n ts = many_at (unmarked mark.CloseBrace) (stmt_at n) (length ts) ts

-- block = "{" { stmt } "}"
unfoldable pub block_at : ℕ → Reader (List Stmt)
block_at n ts = mark_at mark.OpenBrace ts >>= (λ r. stmts_at n r >>= closing mark.CloseBrace)

-- body = "pre" block "test" expr "post" block
abbrev pub body_at : ℕ → Reader Body
body_at n ts =
    word_at (codes "pre") ts >>= (λ r. block_at n r >>= (λ pre. word_at (codes "test") pre.1 >>= (λ s. expr_at n s >>= (λ e. word_at (codes "post") e.1 >>= (λ t. block_at n t >>= (λ post.
    Some (record { pre = pre.0; test = e.0; post = post.0 }, post.1)))))))

-- property = "property" NAME ":" KIND ";"
abbrev pub property_at : Reader Property
property_at ts =
    word_at (codes "property") ts >>= (λ r. name_at r >>= (λ n. mark_at mark.Colon n.1 >>= (λ s. kind_at s >>= (λ k. mark_at mark.Semicolon k.1 >>= (λ t.
    Some (record { name = n.0; kind = k.0 }, t))))))

-- operator = "operator" NAME "(" NAME { "," NAME } ")" ":" NAME block
abbrev pub operator_at : ℕ → Reader Operator
operator_at n ts =
    word_at (codes "operator") ts >>= (λ r. name_at r >>= (λ o. mark_at mark.OpenParen o.1 >>= (λ s. filled_at name_at mark.CloseParen s >>= (λ views.
    mark_at mark.Colon views.1 >>= (λ t. name_at t >>= (λ own. block_at n own.1 >>= (λ init.
    Some (record { name = o.0; views = views.0; own = own.0; init = init.0 }, init.1))))))))

-- algorithm = "algorithm" NAME "/" NUMBER ";"
abbrev pub algorithm_at : Reader Algorithm
algorithm_at ts =
    word_at (codes "algorithm") ts >>= (λ r. name_at r >>= (λ a. mark_at mark.Slash a.1 >>= (λ s. number_at s >>= (λ k. mark_at mark.Semicolon k.1 >>= (λ t.
    Some (record { name = a.0; arity = k.0 }, t))))))

-- param = NAME ":" KIND
abbrev pub param_at : Reader Param
param_at ts = name_at ts >>= (λ n. mark_at mark.Colon n.1 >>= (λ r. kind_at r >>= (λ k. Some (record { name = n.0; kind = k.0 }, k.1))))

-- a helper's name and parameters: NAME "(" [ param { "," param } ] ")"
unfoldable pub signature_at : Reader (Symbol × List Param)
signature_at ts = name_at ts >>= (λ h. mark_at mark.OpenParen h.1 >>= (λ s. closed_at param_at mark.CloseParen s >>= (λ ps. Some ((h.0, ps.0), ps.1))))

-- helper = "helper" NAME "(" [ param { "," param } ] ")" ":" KIND "=" expr ";"
abbrev pub helper_at : ℕ → Reader Helper
helper_at n ts =
    word_at (codes "helper") ts >>= (λ r. signature_at r >>= (λ h. mark_at mark.Colon h.1 >>= (λ t. kind_at t >>= (λ k. assigned_at n k.1 >>= (λ e.
    Some (record { name = h.0.0; params = h.0.1; result = k.0; body = e.0 }, e.1))))))
