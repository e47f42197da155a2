use Rattle.std.proofs.Common.{◌≡◌, ◌≤◌, length}
use Rattle.rule_lex.specs.Gaps.{after_gap}
use Rattle.rule_lex.specs.Lexes.{Leads}
use Rattle.rule_lex.proofs.lexer.tokens.Given as goal

-- what is found so far leads to the rest
abbrev pub invariant-loop-rest : goal.invariant-loop-rest
invariant-loop-rest l = record {
  end : l.out.end ≡ length l.text;
  within : length l.rest ≤ length l.text;
  leads : Leads (length l.text) (after_gap l.text) l.out.placed l.rest;
}

abbrev pub decreases-loop-rest : goal.decreases-loop-rest
decreases-loop-rest l = length l.rest
