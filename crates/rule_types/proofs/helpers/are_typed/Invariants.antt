use Rattle.std.proofs.Common.{◌≡◌, [], drop, take, map}
use Rattle.rule_ast.specs.Seen.{seen_helper}
use Rattle.rule_ast.specs.Typing.{are_typed, signatures_of}
use Rattle.rule_types.proofs.helpers.are_typed.Given as goal

-- the rest decides, over the helpers so far
abbrev pub invariant-loop-i : goal.invariant-loop-i
invariant-loop-i l =
    are_typed l.properties [] (map seen_helper l.helpers) ≡ are_typed l.properties (signatures_of (map seen_helper (take l.i l.helpers))) (map seen_helper (drop l.i l.helpers))
