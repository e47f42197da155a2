use Rattle.std.proofs.Common.{◌≡◌, ◌++◌, take}
use Rattle.std.specs.Prelude.{codes}
use Rattle.std.specs.List.{flat_map}
use Rattle.pr_value.specs.Values.{symbol_text}
use Rattle.pr_value.proofs.printing.quote_others.Given as goal

abbrev pub invariant-loop-symbol : goal.invariant-loop-symbol
invariant-loop-symbol l = l.out ≡ l.initial.out ++ flat_map (λ s. codes ", " ++ symbol_text s) (take l.symbol-index l.symbols)
