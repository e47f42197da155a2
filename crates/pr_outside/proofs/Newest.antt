-- A scan for the first entry of a name.
use Rattle.std.proofs.Common.{◌≡◌, true, false, cond, ℕ, List, ◌∷◌, Some, sym, ap, ◌∙◌, nat_eq}
use Rattle.std.specs.Ordering.{nat_cmp}
use Rattle.std.specs.Cmp.Lexicographic.{slice_cmp, pointwise, texts_ties}
use Rattle.std.specs.FinMap.{find}

pub find_here : (name : List ℕ) (e : List ℕ × List ℕ) (entries rest : List (List ℕ × List ℕ)) → entries ≡ e ∷ rest → pointwise nat_eq name e.0 ≡ true → find (slice_cmp nat_cmp) name entries ≡ Some e.1
find_here name e entries rest is same =
    ap (find (slice_cmp nat_cmp) name) is
    ∙ ap (λ b. cond b (Some e.1) (find (slice_cmp nat_cmp) name rest)) (sym (texts_ties name e.0) ∙ same)

pub find_later : (name : List ℕ) (e : List ℕ × List ℕ) (entries rest : List (List ℕ × List ℕ)) → entries ≡ e ∷ rest → pointwise nat_eq name e.0 ≡ false → find (slice_cmp nat_cmp) name entries ≡ find (slice_cmp nat_cmp) name rest
find_later name e entries rest is other =
    ap (find (slice_cmp nat_cmp) name) is
    ∙ ap (λ b. cond b (Some e.1) (find (slice_cmp nat_cmp) name rest)) (sym (texts_ties name e.0) ∙ other)
