-- What fits a layout.
use Rattle.std.proofs.Common.{◌≡◌, ℕ, zero, suc, Bool, true, false, cond, [], ◌∷◌, length, Some, slice_get, set, refl, ap, subst, arith}
use Rattle.std.specs.Cmp.{first_so, second_so}
use Rattle.std.specs.Cmp.Derive.{both_true}
use Rattle.std.proofs.lemmas.Bool.{false≢true}
use Rattle.pr_value.specs.Values.{default_of, has_kind}
use Rattle.pr_value.specs.declared.kind.Kind.{Kind}
use Rattle.pr_value.specs.declared.value.Value.{Value}
use Rattle.pr_value.proofs.ValueLaws.{has_kind-default_of}
use Rattle.descriptor_types.specs.Descriptors.{Layout, Mask, Desc, plain, fits, only, asked_of}
use Rattle.pr_value.specs.declared.property.Property.{Property}

pub length-fits : (l : Layout) (d : Desc) → fits l d ≡ true → length d ≡ length l
length-fits [] [] fit = refl
length-fits [] (v ∷ d) fit = absurd (false≢true fit)
length-fits (p ∷ ps) [] fit = absurd (false≢true fit)
length-fits (p ∷ ps) (v ∷ d) fit = ap suc (length-fits ps d (second_so _ _ fit))

pub fits-plain : (l : Layout) → fits l (plain l) ≡ true
fits-plain [] = refl
fits-plain (p ∷ ps) = both_true (has_kind-default_of p.kind) (fits-plain ps)

has_kind-cond : (k : Kind) (b : Bool) (v w : Value) → has_kind k v ≡ true → has_kind k w ≡ true → has_kind k (cond b v w) ≡ true
has_kind-cond k true v w left right = left
has_kind-cond k false v w left right = right

pub fits-only : (l : Layout) (m : Mask) (d : Desc) → length m ≡ length l → fits l d ≡ true → fits l (only l m d) ≡ true
fits-only [] m d long fit = refl
fits-only (p ∷ ps) [] d long fit = absurd (omega (arith, long))
fits-only (p ∷ ps) (b ∷ bs) [] long fit = absurd (false≢true fit)
fits-only (p ∷ ps) (b ∷ bs) (v ∷ d) long fit =
    both_true (has_kind-cond p.kind b v (default_of p.kind) (first_so _ _ fit) (has_kind-default_of p.kind)) (fits-only ps bs d (omega (arith, long)) (second_so _ _ fit))

pub fits-asked_of : (l : Layout) (m : Mask) (wanted d : Desc) → length m ≡ length l → fits l wanted ≡ true → fits l d ≡ true → fits l (asked_of m wanted d) ≡ true
fits-asked_of [] [] wanted d long fit_wanted fit = refl
fits-asked_of [] (b ∷ bs) wanted d long fit_wanted fit = absurd (omega (arith, long))
fits-asked_of (p ∷ ps) [] wanted d long fit_wanted fit = absurd (omega (arith, long))
fits-asked_of (p ∷ ps) (b ∷ bs) [] d long fit_wanted fit = absurd (false≢true fit_wanted)
fits-asked_of (p ∷ ps) (b ∷ bs) (w ∷ ws) [] long fit_wanted fit = absurd (false≢true fit)
fits-asked_of (p ∷ ps) (b ∷ bs) (w ∷ ws) (v ∷ d) long fit_wanted fit =
    both_true (has_kind-cond p.kind b w v (first_so _ _ fit_wanted) (first_so _ _ fit)) (fits-asked_of ps bs ws d (omega (arith, long)) (second_so _ _ fit_wanted) (second_so _ _ fit))

-- a value of the property's kind may stand at its place
pub fits-set : (l : Layout) (d : Desc) (i : ℕ) (v : Value) (q : Property) → fits l d ≡ true → slice_get l i ≡ Some q → has_kind q.kind v ≡ true → fits l (set d i v) ≡ true
fits-set [] d i v q fit at is = cc
fits-set (p ∷ ps) [] i v q fit at is = absurd (false≢true fit)
fits-set (p ∷ ps) (w ∷ d) zero v q fit at is =
    let same : q ≡ p = cc in
    both_true (subst (λ (r : Property). has_kind r.kind v ≡ true) same is) (second_so _ _ fit)
fits-set (p ∷ ps) (w ∷ d) (suc i) v q fit at is = both_true (first_so _ _ fit) (fits-set ps d i v q (second_so _ _ fit) at is)

-- and of that kind is the value that does
pub has_kind-at : (l : Layout) (d : Desc) (i : ℕ) (v : Value) (q : Property) → fits l d ≡ true → slice_get l i ≡ Some q → slice_get d i ≡ Some v → has_kind q.kind v ≡ true
has_kind-at [] d i v q fit at is = cc
has_kind-at (p ∷ ps) [] i v q fit at is = absurd (false≢true fit)
has_kind-at (p ∷ ps) (w ∷ d) zero v q fit at is =
    let same : p ≡ q = cc in
    let one : w ≡ v = cc in
    subst (λ (r : Property). has_kind r.kind v ≡ true) same (subst (λ u. has_kind p.kind u ≡ true) one (first_so _ _ fit))
has_kind-at (p ∷ ps) (w ∷ d) (suc i) v q fit at is = has_kind-at ps d i v q (second_so _ _ fit) at is
