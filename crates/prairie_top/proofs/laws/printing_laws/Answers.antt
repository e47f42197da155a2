use Rattle.rule_syntax.specs.Tokens.{tokens_of}
use Rattle.prairie_top.proofs.laws.printing_laws.Goals as goal

pub returns : goal.returns
returns c r h = c.token_laws.ensures.spaced (tokens_of r) (c.spelling_laws.ensures.texts r h)
