-- Descriptors that are made property by property, or setting by setting.
use Rattle.std.proofs.Common.{◌≡◌, ℕ, zero, suc, ◌+◌, ◌<◌, ◌≤◌, List, [], ◌∷◌, ◌++◌, drop, get_or, length, take, Option, Some, None, refl, ap, sym, ◌∙◌, arith}
use Rattle.std.specs.Prelude.{slice_get, slice_set, unwrap_or, IfNone, IfSome}
use Rattle.std.proofs.lemmas.List.{take_all, drop_all, append-nil}
use Rattle.pr_value.specs.Symbols.{Symbol}
use Rattle.pr_value.specs.Values.{default_of}
use Rattle.pr_value.specs.declared.property.Property.{Property}
use Rattle.pr_value.specs.declared.value.Value.{Value}
use Rattle.catalog.specs.Contents.{Field, field}
use Rattle.descriptor_types.specs.Descriptors.{Layout, Desc, place_of, plain, with_value}
use Rattle.descriptor_types.proofs.PlaceLaws.{place_of-at}
use Rattle.query_build.specs.Query.{file_desc, literal_value, with_settings}
use Rattle.rule_ast.specs.declared.query.Setting.{Setting}

-- ---- files

-- the value that a property has where the file has this one or none
abbrev listed_value : List Field → Property → Value
listed_value fields p = unwrap_or (field fields p.name) (default_of p.kind)

pub file_desc-nothing : (l : Layout) → file_desc l [] ≡ plain l
file_desc-nothing [] = refl
file_desc-nothing (p ∷ ps) = ap (λ d. default_of p.kind ∷ d) (file_desc-nothing ps)

-- the first properties as the file has them, and the others at their defaults
abbrev begun : List Field → Layout → ℕ → Desc
begun fields l i = file_desc (take i l) fields ++ plain (drop i l)

begun-same : (fields : List Field) (l : Layout) (i : ℕ) (p : Property) → i < length l → p ≡ get_or l i p
    → begun fields l i ≡ file_desc (take i l) fields ++ default_of p.kind ∷ plain (drop (suc i) l)
begun-same fields [] i p within at = absurd (omega (arith, within))
begun-same fields (q ∷ l) zero p within at = ap (λ (x : Property). default_of x.kind ∷ plain l) (sym at)
begun-same fields (q ∷ l) (suc i) p within at = ap (λ d. listed_value fields q ∷ d) (begun-same fields l i p (omega (arith, within)) at)

begun-set : (fields : List Field) (l : Layout) (i : ℕ) (p : Property) (v : Value) → i < length l
    → slice_set (begun fields l i) i v ≡ file_desc (take i l) fields ++ v ∷ plain (drop (suc i) l)
begun-set fields [] i p v within = absurd (omega (arith, within))
begun-set fields (q ∷ l) zero p v within = refl
begun-set fields (q ∷ l) (suc i) p v within = ap (λ d. listed_value fields q ∷ d) (begun-set fields l i p v (omega (arith, within)))

begun-more : (fields : List Field) (l : Layout) (i : ℕ) (p : Property) → i < length l → p ≡ get_or l i p
    → begun fields l (suc i) ≡ file_desc (take i l) fields ++ listed_value fields p ∷ plain (drop (suc i) l)
begun-more fields [] i p within at = absurd (omega (arith, within))
begun-more fields (q ∷ l) zero p within at = ap (λ (x : Property). listed_value fields x ∷ plain l) (sym at)
begun-more fields (q ∷ l) (suc i) p within at = ap (λ d. listed_value fields q ∷ d) (begun-more fields l i p (omega (arith, within)) at)

-- one property more
pub field_more : (fields : List Field) (l : Layout) (i : ℕ) (p : Property) (d new : Desc) → i < length l → p ≡ get_or l i p → d ≡ begun fields l i
    → IfSome (field fields p.name) (λ v. new ≡ slice_set d i v) → IfNone (field fields p.name) (new ≡ d) → new ≡ begun fields l (i + 1)
field_more fields l i p d new within at so_far some none =
    let one : i + 1 ≡ suc i = omega arith in
    by_field (field fields p.name) some none ∙ sym (ap (begun fields l) one ∙ begun-more fields l i p within at) where
      by_field : (o : Option Value) → IfSome o (λ v. new ≡ slice_set d i v) → IfNone o (new ≡ d) → new ≡ file_desc (take i l) fields ++ unwrap_or o (default_of p.kind) ∷ plain (drop (suc i) l)
      by_field None some none = none ∙ (so_far ∙ begun-same fields l i p within at)
      by_field (Some v) some none = some ∙ (ap (λ (e : Desc). slice_set e i v) so_far ∙ begun-set fields l i p v within)

-- and in the end all
pub field_last : (fields : List Field) (l : Layout) (i : ℕ) (d : Desc) → length l ≤ i → d ≡ begun fields l i → d ≡ file_desc l fields
field_last fields l i d done so_far =
    so_far ∙ (ap (λ (ps : Layout). file_desc ps fields ++ plain (drop i l)) (take_all i l done)
    ∙ (ap (λ (ps : Layout). file_desc l fields ++ plain ps) (drop_all i l done) ∙ append-nil (file_desc l fields)))

-- ---- settings

slice_get-within : {A : Type 0} (xs : List A) (i : ℕ) (x : A) → slice_get xs i ≡ Some x → i < length xs
slice_get-within [] i x at = cc
slice_get-within (y ∷ xs) zero x at = omega arith
slice_get-within (y ∷ xs) (suc i) x at = let h = slice_get-within xs i x at in omega (arith, h)

pub place_within : (l : Layout) (name : Symbol) (i : ℕ) → place_of l name ≡ Some i → i < length l
place_within l name i is = let at = place_of-at l name i is in slice_get-within l i at.0 at.1

pub settings_more : (l : Layout) (ss : List Setting) (i : ℕ) (s : Setting) (d : Desc) → i < length ss → s ≡ get_or ss i s
    → with_settings l (take (i + 1) ss) d ≡ with_value l s.property (literal_value s.value) (with_settings l (take i ss) d)
settings_more l ss i s d within at =
    let one : i + 1 ≡ suc i = omega arith in ap (λ n. with_settings l (take n ss) d) one ∙ next ss i d within at where
      next : (ss : List Setting) (i : ℕ) (d : Desc) → i < length ss → s ≡ get_or ss i s → with_settings l (take (suc i) ss) d ≡ with_value l s.property (literal_value s.value) (with_settings l (take i ss) d)
      next [] i d within at = absurd (omega (arith, within))
      next (t ∷ ss) zero d within at = ap (λ (x : Setting). with_value l x.property (literal_value x.value) d) (sym at)
      next (t ∷ ss) (suc i) d within at = next ss i (with_value l t.property (literal_value t.value) d) (omega (arith, within)) at
