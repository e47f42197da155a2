-- Environments that are bound one descriptor after another.
use Rattle.std.proofs.Common.{◌≡◌, ℕ, zero, suc, ◌+◌, ◌<◌, ◌≤◌, true, List, [], ◌∷◌, ◌++◌, length, take, get_or, refl, ap, sym, ◌∙◌, arith}
use Rattle.std.specs.Cmp.{first_so, second_so}
use Rattle.std.specs.Cmp.Derive.{both_true}
use Rattle.std.specs.List.{list_all, zip}
use Rattle.std.proofs.lemmas.List.{take_more, take_all}
use Rattle.pr_value.proofs.ZipLaws.{firsts, length_of_zip}
use Rattle.pr_value.specs.Repeats.{are_distinct}
use Rattle.pr_value.specs.Symbols.{Symbol}
use Rattle.descriptor_types.specs.Descriptors.{Desc, Layout, fits}
use Rattle.action_eval.proofs.BindLaws.{bound_all-new}
use Rattle.action_eval.specs.Environments.{IsSound, bound_desc, bound_all}
use Rattle.rule_ast.specs.Syntax.{Rules}
use Rattle.rule_ast.specs.Typing.{are_typed}
use Rattle.rule_runs.specs.Runs.{Scope, env_over}

bound_all-more : (ds es : Scope) (d : Symbol × Desc) → bound_all (ds ++ d ∷ []) es ≡ bound_desc d.0 d.1 (bound_all ds es)
bound_all-more [] es d = refl
bound_all-more (f ∷ ds) es d = bound_all-more ds (bound_desc f.0 f.1 es) d

zip_at : {A B : Type 0} (xs : List A) (ys : List B) (i : ℕ) (x : A) (y : B) → i < length xs → length xs ≡ length ys → get_or (zip xs ys) i (x, y) ≡ (get_or xs i x, get_or ys i y)
zip_at [] ys i x y within same = absurd (omega (arith, within))
zip_at (a ∷ xs) [] i x y within same = absurd (omega (arith, same))
zip_at (a ∷ xs) (b ∷ ys) zero x y within same = refl
zip_at (a ∷ xs) (b ∷ ys) (suc i) x y within same = zip_at xs ys i x y (omega (arith, within)) (omega (arith, same))

-- one more
pub bound_next : (names : List Symbol) (descs : List Desc) (i : ℕ) (name : Symbol) (d : Desc) → i < length names → length names ≡ length descs → name ≡ get_or names i name → d ≡ get_or descs i d
    → bound_desc name d (bound_all (take i (zip names descs)) []) ≡ bound_all (take (i + 1) (zip names descs)) []
bound_next names descs i name d within same is this =
    let all = zip names descs in
    let long : i < length all = omega (arith, within, length_of_zip names descs same) in
    let here : get_or all i (name, d) ≡ (name, d) = zip_at names descs i name d within same ∙ (ap (λ (n : Symbol). (n, get_or descs i d)) (sym is) ∙ ap (λ (e : Desc). (name, e)) (sym this)) in
    sym (ap (λ (ds : Scope). bound_all ds []) (take_more all i (name, d) long ∙ ap (λ (p : Symbol × Desc). take i all ++ p ∷ []) here) ∙ bound_all-more (take i all) [] (name, d))

-- and in the end all
pub bound_whole : (names : List Symbol) (descs : List Desc) (i : ℕ) → length names ≤ i → length names ≡ length descs → are_distinct names ≡ true
    → bound_all (take i (zip names descs)) [] ≡ zip names descs
bound_whole names descs i done same distinct =
    ap (λ (ds : Scope). bound_all ds []) (take_all i (zip names descs) (omega (arith, done, length_of_zip names descs same)))
    ∙ bound_all-new (zip names descs) (ap are_distinct (sym (firsts names descs same)) ∙ distinct)

zip_fits : (layout : Layout) (names : List Symbol) (descs : List Desc) → list_all (fits layout) descs ≡ true → list_all (λ d. fits layout d.1) (zip names descs) ≡ true
zip_fits layout [] descs all = refl
zip_fits layout (n ∷ names) [] all = refl
zip_fits layout (n ∷ names) (d ∷ descs) all = both_true (first_so (fits layout d) (list_all (fits layout) descs) all) (zip_fits layout names descs (second_so (fits layout d) (list_all (fits layout) descs) all))

pub sound_over : (r : Rules) (names : List Symbol) (descs : List Desc) → are_typed r.properties [] r.helpers ≡ true → list_all (fits r.properties) descs ≡ true → IsSound (env_over r (zip names descs))
sound_over r names descs typed all = record { layout = refl; helpers = typed; descs = zip_fits r.properties names descs all }
