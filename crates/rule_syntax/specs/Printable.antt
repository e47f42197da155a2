-- The law that the tokens of a rule set are tokens.
use Rattle.std.specs.Prelude.{◌≡◌, true}
use Rattle.std.specs.List.{list_all}
use Rattle.pr_value.specs.TokenTexts.{is_token}
use Rattle.rule_ast.specs.Syntax.{Rules}
use Rattle.rule_syntax.specs.Tokens.{tokens_of}
use Rattle.rule_ast.specs.Spelled.{spells}

-- each token of a rule set that the grammar spells has a text
abbrev pub HasTexts : Type 0
HasTexts = (r : Rules) → spells r ≡ true → list_all is_token (tokens_of r) ≡ true
