-- The law that a rule set is known by its tokens.
use Rattle.std.specs.Prelude.{◌≡◌, true}
use Rattle.rule_ast.specs.Syntax.{Rules}
use Rattle.rule_syntax.specs.Tokens.{tokens_of}
use Rattle.rule_ast.specs.Spelled.{spells}

-- no two rule sets that the grammar spells have the same tokens
abbrev pub DistinctRules : Type 0
DistinctRules = (r s : Rules) → spells r ≡ true → spells s ≡ true → tokens_of r ≡ tokens_of s → r ≡ s
