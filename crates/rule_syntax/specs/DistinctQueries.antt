-- The law that a query is known by its tokens.
use Rattle.std.specs.Prelude.{◌≡◌, true}
use Rattle.rule_ast.specs.Syntax.{Query}
use Rattle.rule_syntax.specs.Tokens.{query_tokens}
use Rattle.rule_ast.specs.Spelled.{spells_query}

-- no two queries that the grammar spells have the same tokens
abbrev pub DistinctQueries : Type 0
DistinctQueries = (q r : Query) → spells_query q ≡ true → spells_query r ≡ true → query_tokens q ≡ query_tokens r → q ≡ r
