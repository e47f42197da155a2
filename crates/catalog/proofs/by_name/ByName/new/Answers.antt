use Rattle.std.proofs.Common.{subst, sym}
use Rattle.std.proofs.Common.{map}
use Rattle.std.specs.List.Sorted.{IsStrictlySortedBy}
use Rattle.pr_value.specs.SymbolSets.{compare_symbols}
use Rattle.catalog.proofs.by_name.ByName.new.Goals as goal

pub invariant_of-result : goal.invariant_of-result
unfolding IsStrictlySortedBy
invariant_of-result g c = subst (λ xs. IsStrictlySortedBy compare_symbols (map g.T.Named.name xs)) (sym c.new.ensures.items) tt
