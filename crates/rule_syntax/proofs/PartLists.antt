-- The lists of parts inside an expression, a side of a rule and a query, as lists.
use Rattle.std.proofs.Common.{map, ◌≡◌, List, [], ◌∷◌, refl, ap}
use Rattle.std.specs.Prelude.{max, ◌&&◌}
use Rattle.std.specs.List.{list_all}
use Rattle.pr_value.specs.Trees.{Tree, trees_of}
use Rattle.rule_ast.specs.Syntax.{Expr, Exprs, LeftLabel, RightLabel, QueryLabel}
use Rattle.rule_ast.specs.Syntax as syntax
use Rattle.rule_ast.specs.Seen.{exprs_of}
use Rattle.rule_syntax.specs.Tokens.{expr_tokens, exprs_tokens, left_tokens, lefts_tokens, right_tokens, rights_tokens, query_tokens, queries_tokens}
use Rattle.rule_ast.specs.Spelled.{has_some, has_inputs, spells_expr, spells_exprs, spells_left_in, spells_left_ins, spells_right_in, spells_right_ins, spells_query, spells_queries}
use Rattle.rule_syntax.specs.Levels.{most, levels, list_levels, left_levels, lefts_levels, right_levels, rights_levels, query_levels, queries_levels}

-- expressions
abbrev pub list_from : Exprs → List Expr
list_from syntax.nil = []
list_from (syntax.cons e es) = e ∷ list_from es

pub from_list : (es : Exprs) → exprs_of (list_from es) ≡ es
from_list syntax.nil = refl
from_list (syntax.cons e es) = ap (syntax.cons e) (from_list es)

pub exprs_tokens-list : (es : List Expr) → exprs_tokens (exprs_of es) ≡ map expr_tokens es
exprs_tokens-list [] = refl
exprs_tokens-list (e ∷ es) = ap (λ ts. expr_tokens e ∷ ts) (exprs_tokens-list es)

pub spells_exprs-list : (es : List Expr) → spells_exprs (exprs_of es) ≡ list_all spells_expr es
spells_exprs-list [] = refl
spells_exprs-list (e ∷ es) = ap (λ b. spells_expr e && b) (spells_exprs-list es)

pub list_levels-list : (es : List Expr) → list_levels (exprs_of es) ≡ most levels es
list_levels-list [] = refl
list_levels-list (e ∷ es) = ap (λ n. max (levels e) n) (list_levels-list es)

-- trees of any kind
pub has_inputs-list : {L : Type 0} (ts : List (Tree L)) → has_inputs (trees_of ts) ≡ has_some ts
has_inputs-list [] = refl
has_inputs-list (t ∷ ts) = refl

-- inputs on a left side
pub lefts_tokens-list : (ls : List (Tree LeftLabel)) → lefts_tokens (trees_of ls) ≡ map left_tokens ls
lefts_tokens-list [] = refl
lefts_tokens-list (l ∷ ls) = ap (λ ts. left_tokens l ∷ ts) (lefts_tokens-list ls)

pub spells_left_ins-list : (ls : List (Tree LeftLabel)) → spells_left_ins (trees_of ls) ≡ list_all spells_left_in ls
spells_left_ins-list [] = refl
spells_left_ins-list (l ∷ ls) = ap (λ b. spells_left_in l && b) (spells_left_ins-list ls)

pub lefts_levels-list : (ls : List (Tree LeftLabel)) → lefts_levels (trees_of ls) ≡ most left_levels ls
lefts_levels-list [] = refl
lefts_levels-list (l ∷ ls) = ap (λ n. max (left_levels l) n) (lefts_levels-list ls)

-- inputs on a right side
pub rights_tokens-list : (rs : List (Tree RightLabel)) → rights_tokens (trees_of rs) ≡ map right_tokens rs
rights_tokens-list [] = refl
rights_tokens-list (r ∷ rs) = ap (λ ts. right_tokens r ∷ ts) (rights_tokens-list rs)

pub spells_right_ins-list : (rs : List (Tree RightLabel)) → spells_right_ins (trees_of rs) ≡ list_all spells_right_in rs
spells_right_ins-list [] = refl
spells_right_ins-list (r ∷ rs) = ap (λ b. spells_right_in r && b) (spells_right_ins-list rs)

pub rights_levels-list : (rs : List (Tree RightLabel)) → rights_levels (trees_of rs) ≡ most right_levels rs
rights_levels-list [] = refl
rights_levels-list (r ∷ rs) = ap (λ n. max (right_levels r) n) (rights_levels-list rs)

-- inputs of a query
pub queries_tokens-list : (qs : List (Tree QueryLabel)) → queries_tokens (trees_of qs) ≡ map query_tokens qs
queries_tokens-list [] = refl
queries_tokens-list (q ∷ qs) = ap (λ ts. query_tokens q ∷ ts) (queries_tokens-list qs)

pub spells_queries-list : (qs : List (Tree QueryLabel)) → spells_queries (trees_of qs) ≡ list_all spells_query qs
spells_queries-list [] = refl
spells_queries-list (q ∷ qs) = ap (λ b. spells_query q && b) (spells_queries-list qs)

pub queries_levels-list : (qs : List (Tree QueryLabel)) → queries_levels (trees_of qs) ≡ most query_levels qs
queries_levels-list [] = refl
queries_levels-list (q ∷ qs) = ap (λ n. max (query_levels q) n) (queries_levels-list qs)
