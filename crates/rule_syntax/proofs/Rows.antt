-- Small rule sets and queries with their tokens, and some that are not spelled.
use Rattle.std.proofs.Common.{◌≡◌, ℕ, true, false, List, [], ◌∷◌, refl}
use Rattle.std.specs.Prelude.{codes}
use Rattle.pr_value.specs.Trees.{Tree, tree}
use Rattle.pr_value.specs.declared.kind.Kind.TheVariants as kind
use Rattle.pr_value.specs.declared.token.Token.{Token}
use Rattle.pr_value.specs.declared.token.Token.TheVariants.{Name, Number, Quoted}
use Rattle.pr_value.specs.declared.token.Token.TheVariants as token
use Rattle.pr_value.specs.declared.token.Mark.{Mark}
use Rattle.pr_value.specs.declared.token.Mark.TheVariants as mark
use Rattle.rule_ast.specs.declared.expr.BinOp.TheVariants as op
use Rattle.rule_ast.specs.declared.expr.FoldKind.TheVariants as folding
use Rattle.rule_ast.specs.declared.query.Literal.TheVariants as literal
use Rattle.rule_ast.specs.declared.sides.AlgName.TheVariants as alg
use Rattle.rule_ast.specs.Syntax as syntax
use Rattle.rule_ast.specs.Syntax.{Expr, LeftLabel, RightLabel, QueryLabel, Body, TRule, IRule, Rules, Query}
use Rattle.rule_syntax.specs.Tokens.{Text, tokens_of, query_tokens, expr_tokens}
use Rattle.rule_ast.specs.Spelled.{is_free, spells, spells_expr, spells_left, spells_right, spells_query}
use Rattle.rule_syntax.specs.Levels.{levels, left_levels, query_levels}

abbrev w : List ℕ → Token
w s = Name s

abbrev k : Mark → Token
k x = token.Mark x

abbrev none : Rules
none = record { properties = []; operators = []; algorithms = []; helpers = []; trules = []; irules = [] }

-- property cost : cost;
abbrev cost_property : Rules
cost_property = record none { properties = record { name = codes "cost"; kind = kind.Cost } ∷ [] }

property_row : tokens_of cost_property ≡ w (codes "property") ∷ w (codes "cost") ∷ k mark.Colon ∷ w (codes "cost") ∷ k mark.Semicolon ∷ []
property_row = refl

-- operator RET(D1) : D { D.card = D1.card; D = D1; }
abbrev ret : Rules
ret =
    record none {
      operators =
          record {
            name = codes "RET";
            views = codes "D1" ∷ [];
            own = codes "D";
            init = syntax.set (codes "D") (codes "card") (syntax.read (codes "D1") (codes "card")) ∷ syntax.copy (codes "D") (codes "D1") ∷ [];
          } ∷ [];
    }

operator_row : tokens_of ret
    ≡ w (codes "operator") ∷ w (codes "RET") ∷ k mark.OpenParen ∷ w (codes "D1") ∷ k mark.CloseParen ∷ k mark.Colon ∷ w (codes "D") ∷ k mark.OpenBrace ∷ w (codes "D") ∷ k mark.Dot ∷ w (codes "card") ∷
    k mark.Assign ∷ w (codes "D1") ∷ k mark.Dot ∷ w (codes "card") ∷ k mark.Semicolon ∷ w (codes "D") ∷ k mark.Assign ∷ w (codes "D1") ∷ k mark.Semicolon ∷ k mark.CloseBrace ∷ []
operator_row = refl

-- algorithm Scan / 1;
abbrev scan : Rules
scan = record none { algorithms = record { name = codes "Scan"; arity = 1 } ∷ [] }

algorithm_row : tokens_of scan ≡ w (codes "algorithm") ∷ w (codes "Scan") ∷ k mark.Slash ∷ Number 1 ∷ k mark.Semicolon ∷ []
algorithm_row = refl

-- helper rows(s : set, n : num) : num = product(x in s : num_at('card, x));
abbrev rows : Rules
rows =
    record none {
      helpers =
          record {
            name = codes "rows";
            params = record { name = codes "s"; kind = kind.Set } ∷ record { name = codes "n"; kind = kind.Num } ∷ [];
            result = kind.Num;
            body =
                syntax.fold folding.Product (codes "x") (syntax.var (codes "s"))
                (syntax.call (codes "num_at") (syntax.cons (syntax.symbol (codes "card")) (syntax.cons (syntax.var (codes "x")) syntax.nil)));
          } ∷ [];
    }

helper_row : tokens_of rows
    ≡ w (codes "helper") ∷ w (codes "rows") ∷ k mark.OpenParen ∷ w (codes "s") ∷ k mark.Colon ∷ w (codes "set") ∷ k mark.Comma ∷ w (codes "n") ∷ k mark.Colon ∷ w (codes "num") ∷ k mark.CloseParen ∷ k mark.Colon ∷
    w (codes "num") ∷ k mark.Assign ∷ w (codes "product") ∷ k mark.OpenParen ∷ w (codes "x") ∷ w (codes "in") ∷ w (codes "s") ∷ k mark.Colon ∷ w (codes "num_at") ∷ k mark.OpenParen ∷ Quoted (codes "card") ∷ k mark.Comma ∷
    w (codes "x") ∷ k mark.CloseParen ∷ k mark.CloseParen ∷ k mark.Semicolon ∷ []
helper_row = refl

abbrev plain : Body
plain = record { pre = []; test = syntax.truth true; post = [] }

abbrev plain_tokens : Text
plain_tokens = w (codes "pre") ∷ k mark.OpenBrace ∷ k mark.CloseBrace ∷ w (codes "test") ∷ w (codes "true") ∷ w (codes "post") ∷ k mark.OpenBrace ∷ k mark.CloseBrace ∷ []

abbrev join : Tree LeftLabel
join = tree (LeftLabel.operator (codes "JOIN") (codes "D")) (tree (LeftLabel.stream 1 (codes "D1")) [] ∷ tree (LeftLabel.stream 2 (codes "D2")) [] ∷ [])

-- trule commute : JOIN(?1 : D1, ?2 : D2) : D => JOIN(?2, ?1) : R pre { } test true post { }
abbrev commute : Rules
commute =
    record none {
      trules =
          record {
            name = codes "commute";
            left = join;
            right = tree (RightLabel.operator (codes "JOIN") (codes "R")) (tree (RightLabel.stream 2) [] ∷ tree (RightLabel.stream 1) [] ∷ []);
            body = plain;
          } ∷ [];
    }

trule_row : tokens_of commute
    ≡ w (codes "trule") ∷ w (codes "commute") ∷ k mark.Colon ∷ w (codes "JOIN") ∷ k mark.OpenParen ∷ k mark.Question ∷ Number 1 ∷ k mark.Colon ∷ w (codes "D1") ∷ k mark.Comma ∷ k mark.Question ∷ Number 2 ∷ k mark.Colon ∷
    w (codes "D2") ∷ k mark.CloseParen ∷ k mark.Colon ∷ w (codes "D") ∷ k mark.Arrow ∷ w (codes "JOIN") ∷ k mark.OpenParen ∷ k mark.Question ∷ Number 2 ∷ k mark.Comma ∷ k mark.Question ∷ Number 1 ∷ k mark.CloseParen ∷
    k mark.Colon ∷ w (codes "R") ∷ plain_tokens
trule_row = refl

abbrev sort : Tree LeftLabel
sort = tree (LeftLabel.operator (codes "SORT") (codes "D")) (tree (LeftLabel.stream 1 (codes "D1")) [] ∷ [])

-- irule null : SORT(?1 : D1) : D => Null(?1 : E1) : E pre { } test true post { }
abbrev null_rule : Rules
null_rule =
    record none { irules = record { name = codes "null"; left = sort; right = record { alg = alg.Null; inputs = record { number = 1; desc = codes "E1" } ∷ []; desc = codes "E" }; body = plain } ∷ [] }

irule_row : tokens_of null_rule
    ≡ w (codes "irule") ∷ w (codes "null") ∷ k mark.Colon ∷ w (codes "SORT") ∷ k mark.OpenParen ∷ k mark.Question ∷ Number 1 ∷ k mark.Colon ∷ w (codes "D1") ∷ k mark.CloseParen ∷ k mark.Colon ∷ w (codes "D") ∷ k mark.Arrow ∷
    w (codes "Null") ∷ k mark.OpenParen ∷ k mark.Question ∷ Number 1 ∷ k mark.Colon ∷ w (codes "E1") ∷ k mark.CloseParen ∷ k mark.Colon ∷ w (codes "E") ∷ plain_tokens
irule_row = refl

-- the sections of a rule set stand in the order of the grammar
sections_row : tokens_of (record cost_property { algorithms = record { name = codes "Scan"; arity = 1 } ∷ [] })
    ≡ w (codes "property") ∷ w (codes "cost") ∷ k mark.Colon ∷ w (codes "cost") ∷ k mark.Semicolon ∷ w (codes "algorithm") ∷ w (codes "Scan") ∷ k mark.Slash ∷ Number 1 ∷ k mark.Semicolon ∷ []
sections_row = refl

-- ({} == [1, 'a])
expr_row : expr_tokens (syntax.binary (syntax.set_of syntax.nil) op.Equal (syntax.list_of (syntax.cons (syntax.number 1) (syntax.cons (syntax.symbol (codes "a")) syntax.nil))))
    ≡ k mark.OpenParen ∷ k mark.OpenBrace ∷ k mark.CloseBrace ∷ k mark.Equal ∷ k mark.OpenBracket ∷ Number 1 ∷ k mark.Comma ∷ Quoted (codes "a") ∷ k mark.CloseBracket ∷ k mark.CloseParen ∷ []
expr_row = refl

abbrev emp : Query
emp = tree (QueryLabel.file (codes "emp")) []

-- SORT{order = 'k, on = {'a, '-}}(file emp)
abbrev sorted : Query
sorted =
    tree
    (QueryLabel.operator (codes "SORT")
    (record { property = codes "order"; value = literal.Sym (codes "k") } ∷ record { property = codes "on"; value = literal.SetOf (codes "a" ∷ codes "-" ∷ []) } ∷ [])) (emp ∷ [])

query_row : query_tokens sorted
    ≡ w (codes "SORT") ∷ k mark.OpenBrace ∷ w (codes "order") ∷ k mark.Assign ∷ Quoted (codes "k") ∷ k mark.Comma ∷ w (codes "on") ∷ k mark.Assign ∷ k mark.OpenBrace ∷ Quoted (codes "a") ∷ k mark.Comma ∷
    Quoted (codes "-") ∷ k mark.CloseBrace ∷ k mark.CloseBrace ∷ k mark.OpenParen ∷ w (codes "file") ∷ w (codes "emp") ∷ k mark.CloseParen ∷ []
query_row = refl

-- no braces without settings
bare_query_row : query_tokens (tree (QueryLabel.operator (codes "RET") []) (emp ∷ emp ∷ []))
    ≡ w (codes "RET") ∷ k mark.OpenParen ∷ w (codes "file") ∷ w (codes "emp") ∷ k mark.Comma ∷ w (codes "file") ∷ w (codes "emp") ∷ k mark.CloseParen ∷ []
bare_query_row = refl

-- all of these are spelled
spelled_row : spells (record none { properties = cost_property.properties; operators = ret.operators; algorithms = scan.algorithms; helpers = rows.helpers; trules = commute.trules; irules = null_rule.irules }) ≡ true
unfolding is_free
spelled_row = refl

spelled_query_row : spells_query sorted ≡ true
unfolding is_free
spelled_query_row = refl

-- reserved names, `-` and numbers past the cap are not
reserved_row : spells_expr (syntax.var (codes "keep")) ≡ false
unfolding is_free
reserved_row = refl

dash_row : spells_expr (syntax.var (codes "-")) ≡ false
unfolding is_free
dash_row = refl

dash_symbol_row : spells_expr (syntax.symbol (codes "-")) ≡ true
dash_symbol_row = refl

big_row : spells_expr (syntax.number 1_000_000_000_000_000_001) ≡ false
big_row = refl

-- an operator without inputs is not, nor a stream or a file with one, nor a stream as a side
no_input_row : spells_left (tree (LeftLabel.operator (codes "RET") (codes "D")) []) ≡ false
unfolding is_free
no_input_row = refl

stream_input_row : spells_right (tree (RightLabel.operator (codes "RET") (codes "D")) (tree (RightLabel.stream 1) (tree (RightLabel.stream 2) [] ∷ []) ∷ [])) ≡ false
unfolding is_free
stream_input_row = refl

stream_side_row : spells_right (tree (RightLabel.stream 1) []) ≡ false
stream_side_row = refl

file_input_row : spells_query (tree (QueryLabel.file (codes "emp")) (emp ∷ [])) ≡ false
unfolding is_free
file_input_row = refl

no_query_input_row : spells_query (tree (QueryLabel.operator (codes "RET") []) []) ≡ false
unfolding is_free
no_query_input_row = refl

no_view_row : spells (record none { operators = record { name = codes "RET"; views = []; own = codes "D"; init = [] } ∷ [] }) ≡ false
unfolding is_free
no_view_row = refl

-- levels count from 1, and a stream is at none
level_row : levels (syntax.binary (syntax.number 1) op.Add (syntax.call (codes "not") (syntax.cons (syntax.truth true) syntax.nil))) ≡ 3
level_row = refl

left_level_row : left_levels join ≡ 1
left_level_row = refl

query_level_row : query_levels sorted ≡ 2
query_level_row = refl
