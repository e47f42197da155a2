use Rattle.std.proofs.Common.{◌≡◌, ◌++◌, ap, sym, ◌∙◌}
use Rattle.std.proofs.lemmas.List.{take_all}
use Rattle.pr_value.specs.SymbolSets.{set_of}
use Rattle.pr_value.proofs.SortLaws.{union-set_of}
use Rattle.pr_value.proofs.sym_set.SymSet.union.Goals as goal

pub returns : goal.returns
returns c =
    let s = c.args.self.now in
    let t = c.args.other.now in
    let all : c.loop-member.all.items ≡ s ++ t =
    c.loop-member.invariant ∙ ap (λ ts. s ++ ts) (take_all _ _ c.loop-member-test.false ∙ c.as_slice-member-items.ensures.same)
    in
    c.in_ok-union.ensures ∙ (ap set_of all ∙ sym (union-set_of s t c.as_slice-member-items.ensures.ascending))
