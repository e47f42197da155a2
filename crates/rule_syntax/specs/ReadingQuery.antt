-- What the reader of queries does.
use Rattle.std.specs.Prelude.{ℕ, zero, suc, nat_le, if◌then◌else◌, List, [], ◌∷◌, Option, Some, None, codes}
use Rattle.pr_value.specs.Capped.{cap}
use Rattle.pr_value.specs.Symbols.{is_symbol}
use Rattle.pr_value.specs.Trees.{tree}
use Rattle.pr_value.specs.declared.token.Token.TheVariants as token
use Rattle.pr_value.specs.declared.token.Mark.TheVariants as mark
use Rattle.rule_ast.specs.declared.query.Setting.{Setting}
use Rattle.rule_ast.specs.declared.query.Literal.{Literal}
use Rattle.rule_ast.specs.declared.query.Literal.TheVariants as literal
use Rattle.rule_ast.specs.Syntax.{QueryLabel, Query}
use Rattle.rule_syntax.specs.Tokens.{Text}
use Rattle.rule_syntax.specs.Levels.{most_query_levels}
use Rattle.rule_syntax.specs.Reading.{◌>>=◌, Reader, mark_at, marked, word_at, begins, name_at, quoted_at, truth_of, filled_at, closed_at, alone}

-- literal = NUMBER | "true" | "false" | SYMBOL
--         | "{" [ SYMBOL { "," SYMBOL } ] "}" | "[" [ SYMBOL { "," SYMBOL } ] "]"
abbrev pub literal_at : Reader Literal
literal_at (token.Number n ∷ ts) = if nat_le n cap then Some (literal.Number n, ts) else None
literal_at (token.Name s ∷ ts) = truth_of s >>= (λ b. Some (literal.Truth b, ts))
literal_at (token.Quoted s ∷ ts) = if is_symbol s then Some (literal.Sym s, ts) else None
literal_at (token.Mark mark.OpenBrace ∷ ts) = closed_at quoted_at mark.CloseBrace ts >>= (λ y. Some (literal.SetOf y.0, y.1))
literal_at (token.Mark mark.OpenBracket ∷ ts) = closed_at quoted_at mark.CloseBracket ts >>= (λ y. Some (literal.ListOf y.0, y.1))
literal_at ts = None

-- set = NAME "=" literal
abbrev pub setting_at : Reader Setting
setting_at ts = name_at ts >>= (λ p. mark_at mark.Assign p.1 >>= (λ r. literal_at r >>= (λ v. Some (record { property = p.0; value = v.0 }, v.1))))

-- [ "{" set { "," set } "}" ]
abbrev pub settings_at : Reader (List Setting)
settings_at ts = if marked mark.OpenBrace ts then (mark_at mark.OpenBrace ts >>= filled_at setting_at mark.CloseBrace) else Some ([], ts)

-- "file" NAME
unfoldable pub file_at : Reader Query
file_at ts = word_at (codes "file") ts >>= (λ r. name_at r >>= (λ f. Some (tree (QueryLabel.file f.0) [], f.1)))

-- NAME [ "{" set { "," set } "}" ] "(" query { "," query } ")"
unfoldable pub operator_at : Reader Query → Reader Query
operator_at query ts =
    name_at ts >>= (λ o. settings_at o.1 >>= (λ ss. mark_at mark.OpenParen ss.1 >>= (λ r. filled_at query mark.CloseParen r >>= (λ qs.
    Some (tree (QueryLabel.operator o.0 ss.0) qs.0, qs.1)))))

-- query = "file" NAME | NAME [ "{" set { "," set } "}" ] "(" query { "," query } ")", by a reader of its inputs
unfoldable pub query_level_at : Reader Query → Reader Query
query_level_at query ts = if begins (codes "file") ts then file_at ts else operator_at query ts

-- query, of so many levels at most
unfoldable pub query_at : ℕ → Reader Query
query_at zero ts = None
query_at (suc n) ts = query_level_at (query_at n) ts

-- a query and nothing behind it
abbrev pub whole_query_at : Text → Option Query
whole_query_at ts = query_at most_query_levels ts >>= alone
