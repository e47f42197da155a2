use Rattle.std.proofs.Common.{◌≡◌, take, map}
use Rattle.rule_ast.specs.Seen.{seen_helper}
use Rattle.rule_ast.specs.Typing.{helper_result, signatures_of}
use Rattle.rule_types.proofs.calls.helper_result.Given as goal

abbrev pub invariant-loop-helper : goal.invariant-loop-helper
invariant-loop-helper l = l.found ≡ helper_result (signatures_of (map seen_helper (take l.helper-index l.helpers))) l.name l.types
