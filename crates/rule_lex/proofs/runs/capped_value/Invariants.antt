use Rattle.std.proofs.Common.{◌≡◌, ◌+◌, ◌≤◌, true, min, drop}
use Rattle.std.specs.List.{list_all}
use Rattle.pr_value.specs.Capped.{cap}
use Rattle.pr_value.specs.Symbols.{is_digit}
use Rattle.rule_lex.specs.Lexemes.{value_from}
use Rattle.rule_lex.proofs.runs.capped_value.Given as goal

abbrev pub invariant-loop-b : goal.invariant-loop-b
invariant-loop-b l = record {
  capped : l.value ≤ cap + 1;
  digits : list_all is_digit (drop l.b-index l.digits) ≡ true;
  same : min (value_from l.value (drop l.b-index l.digits)) (cap + 1) ≡ min (value_from 0 l.digits) (cap + 1);
}
