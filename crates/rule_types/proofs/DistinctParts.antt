-- Distinct symbols of a list are distinct in its parts.
use Rattle.std.proofs.Common.{◌≡◌, true, false, not, List, [], ◌∷◌, ◌++◌, refl, ap, sym, ◌∙◌}
use Rattle.std.proofs.lemmas.Bool.{and_from, and_parts, not-true, or_parts}
use Rattle.std.proofs.lemmas.List.Folds.{list_any-append}
use Rattle.std.specs.Str.{bytes_eq}
use Rattle.pr_value.specs.Repeats.{are_distinct}
use Rattle.pr_value.specs.Symbols.{Symbol}
use Rattle.pr_value.specs.SymbolSets.{contains}

pub distinct-behind : (ss ts : List Symbol) → are_distinct (ss ++ ts) ≡ true → are_distinct ts ≡ true
distinct-behind [] ts h = h
distinct-behind (s ∷ ss) ts h = distinct-behind ss ts (and_parts (not (contains (ss ++ ts) s)) (are_distinct (ss ++ ts)) h).1

-- what is none of a list is none of its parts
pub contains-parts : (s : Symbol) (ss ts : List Symbol) → contains (ss ++ ts) s ≡ false → (contains ss s ≡ false) × (contains ts s ≡ false)
contains-parts s ss ts h = or_parts (contains ss s) (contains ts s) (sym (list_any-append (bytes_eq s) ss ts) ∙ h)

pub distinct-before : (ss ts : List Symbol) → are_distinct (ss ++ ts) ≡ true → are_distinct ss ≡ true
distinct-before [] ts h = refl
distinct-before (s ∷ ss) ts h =
    let p = and_parts (not (contains (ss ++ ts) s)) (are_distinct (ss ++ ts)) h in
    and_from (not (contains ss s)) (are_distinct ss)
    (ap not (contains-parts s ss ts (not-true (contains (ss ++ ts) s) p.0)).0) (distinct-before ss ts p.1)
