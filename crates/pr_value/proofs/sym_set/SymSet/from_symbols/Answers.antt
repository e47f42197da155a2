use Rattle.std.proofs.Common.{ap, ◌∙◌}
use Rattle.pr_value.specs.SymbolSets.{ascends}
use Rattle.pr_value.proofs.MemberLaws.{ascends-set_of}
use Rattle.pr_value.proofs.SortLaws.{set_of-sorted}
use Rattle.pr_value.proofs.sym_set.SymSet.from_symbols.Goals as goal

pub returns : goal.returns
returns c =
    set_of-sorted c.args.symbols.items _ _ _ c.args.symbols.len c.as_mut_slice.ensures.value c.args.symbols.ok.0 c.in_ok-sort.ensures.len c.in_ok-sort.ensures.permutation c.in_ok-sort.ensures.sorted c.dedup.ensures.filtered

pub invariant_of-result : goal.invariant_of-result
invariant_of-result c = ap ascends (returns c) ∙ ascends-set_of c.args.symbols.items
