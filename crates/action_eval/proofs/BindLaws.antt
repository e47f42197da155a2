-- Descriptors that are bound under their names.
use Rattle.std.proofs.Common.{◌≡◌, Bool, true, false, cond, not, ◌||◌, List, [], ◌∷◌, ◌++◌, refl, ap, sym, ◌∙◌}
use Rattle.std.specs.List.{list_all}
use Rattle.std.specs.Cmp.{first_so, second_so}
use Rattle.std.specs.Cmp.Derive.{both_true}
use Rattle.std.specs.Str.{bytes_eq}
use Rattle.std.proofs.lemmas.Bool.{false≢true}
use Rattle.pr_value.specs.Repeats.{are_distinct}
use Rattle.pr_value.specs.Symbols.{Symbol}
use Rattle.pr_value.specs.SymbolSets.{contains}
use Rattle.descriptor_types.specs.Descriptors.{Layout, Desc, fits}
use Rattle.action_eval.specs.Environments.{Env, IsSound, bound_desc, bound_in, bound_all, names_bound}
use Rattle.action_eval.proofs.PlainLaws.{or_first, or_second}
use Rattle.action_eval.proofs.TypeLaws.{bytes_eq-sym}

abbrev Descs : Type 0
Descs = List (Symbol × Desc)

fits-bound_desc : (layout : Layout) (ds : Descs) (name : Symbol) (e : Desc) → list_all (λ d. fits layout d.1) ds ≡ true → fits layout e ≡ true → list_all (λ d. fits layout d.1) (bound_desc name e ds) ≡ true
fits-bound_desc layout [] name e all fit = both_true fit refl
fits-bound_desc layout (d ∷ ds) name e all fit =
    elim (bytes_eq d.0 name) as (λ b. list_all (λ d. fits layout d.1) (cond b ((d.0, e) ∷ ds) (d ∷ bound_desc name e ds)) ≡ true) [
      | true ↦ both_true fit (second_so (fits layout d.1) _ all)
      | false ↦ both_true (first_so (fits layout d.1) (list_all (λ d. fits layout d.1) ds) all) (fits-bound_desc layout ds name e (second_so (fits layout d.1) _ all) fit)
    ]

pub sound-bound_in : (env : Env) (name : Symbol) (d : Desc) → IsSound env → fits env.layout d ≡ true → IsSound (bound_in name d env)
sound-bound_in env name d sound fit = record { layout = sound.layout; helpers = sound.helpers; descs = fits-bound_desc env.layout env.descs name d sound.descs fit }

pub bound_desc-last : (ds : Descs) (name : Symbol) (e : Desc) → contains (names_bound ds) name ≡ false → bound_desc name e ds ≡ ds ++ (name, e) ∷ []
bound_desc-last [] name e new = refl
bound_desc-last (d ∷ ds) name e new =
    ap (λ b. cond b ((d.0, e) ∷ ds) (d ∷ bound_desc name e ds)) (bytes_eq-sym d.0 name ∙ or_first (bytes_eq name d.0) _ new)
    ∙ ap (λ (es : Descs). d ∷ es) (bound_desc-last ds name e (or_second (bytes_eq name d.0) _ new))

pub names-bound_desc : (ds : Descs) (name : Symbol) (e : Desc) → contains (names_bound ds) name ≡ true → names_bound (bound_desc name e ds) ≡ names_bound ds
names-bound_desc [] name e there = absurd (false≢true there)
names-bound_desc (d ∷ ds) name e there =
    elim (bytes_eq d.0 name) as (λ b. (b || contains (names_bound ds) name) ≡ true → names_bound (cond b ((d.0, e) ∷ ds) (d ∷ bound_desc name e ds)) ≡ d.0 ∷ names_bound ds) [
      | true ↦ λ h. refl
      | false ↦ λ h. ap (λ (ss : List Symbol). d.0 ∷ ss) (names-bound_desc ds name e h)
    ] (ap (λ b. b || contains (names_bound ds) name) (bytes_eq-sym d.0 name) ∙ there)

-- ---- one after another

-- none of the names stands among the others
abbrev Apart : Descs → Descs → Type 0
Apart es ds = list_all (λ d. not (contains (names_bound es) d.0)) ds ≡ true

not-so : (b : Bool) → not b ≡ true → b ≡ false
not-so true is = sym is
not-so false is = refl

apart-more : (es : Descs) (d : Symbol × Desc) (ds : Descs) → Apart es ds → not (contains (names_bound ds) d.0) ≡ true → Apart (es ++ d ∷ []) ds
apart-more es d [] apart new = refl
apart-more es d (e ∷ ds) apart new =
    let here = not-so _ new in
    both_true
    (ap not (contains-push es d e.0 ∙ ap (λ b. contains (names_bound es) e.0 || b) (bytes_eq-sym e.0 d.0 ∙ or_first (bytes_eq d.0 e.0) _ here)) ∙ ap not (or-false (contains (names_bound es) e.0)) ∙ first_so _ _ apart)
    (apart-more es d ds (second_so (not (contains (names_bound es) e.0)) _ apart) (ap not (or_second (bytes_eq d.0 e.0) _ here))) where
      or-false : (b : Bool) → (b || false) ≡ b
      or-false true = refl
      or-false false = refl

      contains-push : (es : Descs) (d : Symbol × Desc) (s : Symbol) → contains (names_bound (es ++ d ∷ [])) s ≡ (contains (names_bound es) s || bytes_eq s d.0)
      contains-push [] d s = or-false (bytes_eq s d.0)
      contains-push (e ∷ es) d s = under (bytes_eq s e.0) _ _ _ (contains-push es d s) where
        under : (a b c d : Bool) → b ≡ (c || d) → (a || b) ≡ ((a || c) || d)
        under true b c d is = refl
        under false b c d is = is

bound_all-behind : (ds es : Descs) → are_distinct (names_bound ds) ≡ true → Apart es ds → bound_all ds es ≡ es ++ ds
bound_all-behind [] es distinct apart = sym (append-nothing es) where
  append-nothing : (es : Descs) → es ++ [] ≡ es
  append-nothing [] = refl
  append-nothing (e ∷ es) = ap (λ (fs : Descs). e ∷ fs) (append-nothing es)
bound_all-behind (d ∷ ds) es distinct apart =
    let new = first_so (not (contains (names_bound es) d.0)) _ apart in
    ap (bound_all ds) (bound_desc-last es d.0 d.1 (not-so _ new))
    ∙ bound_all-behind ds (es ++ d ∷ []) (second_so (not (contains (names_bound ds) d.0)) _ distinct) (apart-more es d ds (second_so (not (contains (names_bound es) d.0)) _ apart) (first_so _ _ distinct))
    ∙ append-one es where
      append-one : (es : Descs) → (es ++ d ∷ []) ++ ds ≡ es ++ d ∷ ds
      append-one [] = refl
      append-one (e ∷ es) = ap (λ (fs : Descs). e ∷ fs) (append-one es)

all-apart : (ds : Descs) → Apart [] ds
all-apart [] = refl
all-apart (d ∷ ds) = all-apart ds

-- different names stand in the order of binding
pub bound_all-new : (ds : Descs) → are_distinct (names_bound ds) ≡ true → bound_all ds [] ≡ ds
bound_all-new ds distinct = bound_all-behind ds [] distinct (all-apart ds)
