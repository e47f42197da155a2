use Rattle.std.proofs.Common.{◌≡◌, drop}
use Rattle.std.specs.List.{list_all}
use Rattle.descriptor_types.specs.Descriptors.{fits}
use Rattle.tree_terms.proofs.term_fits.all_fit.Given as goal

-- the rest decides
abbrev pub invariant-loop-desc : goal.invariant-loop-desc
invariant-loop-desc l = list_all (fits l.layout) (drop l.desc-index l.descs) ≡ list_all (fits l.layout) l.descs
