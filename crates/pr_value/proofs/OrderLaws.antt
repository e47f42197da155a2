-- The order of symbols.
use Rattle.std.proofs.Common.{◌≡◌, true, false, ap, ◌∙◌}
use Rattle.std.specs.declared.cmp.Ordering.{Ordering}
use Rattle.std.specs.declared.cmp.Ordering.TheVariants.{Less, Equal, Greater}
use Rattle.std.specs.Ordering.{ordering_reverse, is_eq, is_lt}
use Rattle.std.specs.Cmp.{tied_itself}
use Rattle.std.specs.Cmp.Lexicographic.{nat_list_cmp_total, texts_ties}
use Rattle.std.specs.FinMap.{nat_cmp-IsAntisymmetric, slice_cmp-IsAntisymmetric}
use Rattle.std.specs.Str.{bytes_eq}
use Rattle.pr_value.specs.Symbols.{Symbol}
use Rattle.pr_value.specs.SymbolSets.{compare_symbols, is_before}

pub compare_symbols-reversed : (s t : Symbol) (o : Ordering) → compare_symbols s t ≡ o → compare_symbols t s ≡ ordering_reverse o
compare_symbols-reversed s t o e = nat_list_cmp_total.antisymm t s ∙ ap ordering_reverse e

pub compare_symbols-itself : (s : Symbol) → compare_symbols s s ≡ Equal
compare_symbols-itself s = tied_itself nat_list_cmp_total s

pub same_from_compare_symbols : (s t : Symbol) → compare_symbols s t ≡ Equal → s ≡ t
same_from_compare_symbols s t e = slice_cmp-IsAntisymmetric nat_cmp-IsAntisymmetric s t e

pub bytes_eq-compare_symbols : (s t : Symbol) (o : Ordering) → compare_symbols t s ≡ o → bytes_eq s t ≡ is_eq (ordering_reverse o)
bytes_eq-compare_symbols s t o e = texts_ties s t ∙ ap is_eq (compare_symbols-reversed t s o e)

is_less : (o : Ordering) → is_lt o ≡ true → o ≡ Less
is_less Less e = cc
is_less Equal e = cc
is_less Greater e = cc

pub compare_symbols-before : (s t : Symbol) → is_before s t ≡ true → compare_symbols s t ≡ Less
compare_symbols-before s t e = is_less _ e

pub before_trans : (s t u : Symbol) → is_before s t ≡ true → is_before t u ≡ true → is_before s u ≡ true
before_trans s t u e f = ap is_lt (nat_list_cmp_total.trans s t u (compare_symbols-before s t e) (compare_symbols-before t u f))

pub not_after : (s t : Symbol) → is_before s t ≡ true → is_before t s ≡ false
not_after s t e = ap is_lt (compare_symbols-reversed s t Less (compare_symbols-before s t e))
