-- What a loop over the places of a descriptor has made.
use Rattle.std.proofs.Common.{◌≡◌, ◌≢◌, ℕ, zero, suc, ◌+◌, Bool, true, false, cond, ◌&&◌, List, [], ◌∷◌, ◌++◌, length, Some, slice_get, take, drop, ◌≤◌, refl, ap, sym, ◌∙◌, add-one, arith}
use Rattle.std.specs.Option.{option_map}
use Rattle.std.proofs.lemmas.List.{take_all}
use Rattle.pr_value.specs.Values.{default_of, has_kind}
use Rattle.pr_value.specs.declared.kind.Kind.{Kind}
use Rattle.pr_value.specs.declared.value.Value.{Value}
use Rattle.descriptor_types.specs.Descriptors.{Layout, Mask, Desc, fits, only, asked_of}
use Rattle.descriptor_types.proofs.FitLaws.{length-fits}

-- ---- one value more

take-next : {X : Type 0} (xs : List X) (i : ℕ) (x : X) → slice_get xs i ≡ Some x → take (suc i) xs ≡ take i xs ++ x ∷ []
take-next [] i x at = cc
take-next (y ∷ xs) zero x at = let same : y ≡ x = cc in ap (λ z. z ∷ []) same
take-next (y ∷ xs) (suc i) x at = ap (λ ys. y ∷ ys) (take-next xs i x at)

pub slice_get-only : (l : Layout) (m : Mask) (d : Desc) (i : ℕ) (k : Kind) (b : Bool) (v : Value) → option_map (λ p. p.kind) (slice_get l i) ≡ Some k → slice_get m i ≡ Some b → slice_get d i ≡ Some v
    → slice_get (only l m d) i ≡ Some (cond b v (default_of k))
slice_get-only [] m d i k b v kind on at = cc
slice_get-only (p ∷ ps) [] d i k b v kind on at = cc
slice_get-only (p ∷ ps) (c ∷ cs) [] i k b v kind on at = cc
slice_get-only (p ∷ ps) (c ∷ cs) (w ∷ d) zero k b v kind on at = cc
slice_get-only (p ∷ ps) (c ∷ cs) (w ∷ d) (suc i) k b v kind on at = slice_get-only ps cs d i k b v kind on at

pub slice_get-asked_of : (m : Mask) (wanted d : Desc) (i : ℕ) (b : Bool) (w v : Value) → slice_get m i ≡ Some b → slice_get wanted i ≡ Some w → slice_get d i ≡ Some v → slice_get (asked_of m wanted d) i ≡ Some (cond b w v)
slice_get-asked_of [] wanted d i b w v on asked at = cc
slice_get-asked_of (c ∷ cs) [] d i b w v on asked at = cc
slice_get-asked_of (c ∷ cs) (x ∷ xs) [] i b w v on asked at = cc
slice_get-asked_of (c ∷ cs) (x ∷ xs) (y ∷ d) zero b w v on asked at = cc
slice_get-asked_of (c ∷ cs) (x ∷ xs) (y ∷ d) (suc i) b w v on asked at = slice_get-asked_of cs xs d i b w v on asked at

-- what is made so far, and the next value
made-more : (xs made : Desc) (i : ℕ) (x : Value) → made ≡ take i xs → slice_get xs i ≡ Some x → made ++ x ∷ [] ≡ take (i + 1) xs
made-more xs made i x so_far at = rw add-one (ap (λ ys. ys ++ x ∷ []) so_far ∙ sym (take-next xs i x at))

pub only-more : (l : Layout) (m : Mask) (d made : Desc) (i : ℕ) (k : Kind) (b : Bool) (v w : Value) → made ≡ take i (only l m d) → option_map (λ p. p.kind) (slice_get l i) ≡ Some k → slice_get m i ≡ Some b → slice_get d i ≡ Some v
    → w ≡ cond b v (default_of k) → made ++ w ∷ [] ≡ take (i + 1) (only l m d)
only-more l m d made i k b v w so_far kind on at is =
    made-more (only l m d) made i w so_far (slice_get-only l m d i k b v kind on at ∙ ap (λ x. Some x) (sym is))

pub asked-more : (m : Mask) (wanted d made : Desc) (i : ℕ) (b : Bool) (x v w : Value) → made ≡ take i (asked_of m wanted d) → slice_get m i ≡ Some b → slice_get wanted i ≡ Some x → slice_get d i ≡ Some v
    → w ≡ cond b x v → made ++ w ∷ [] ≡ take (i + 1) (asked_of m wanted d)
asked-more m wanted d made i b x v w so_far on asked at is =
    made-more (asked_of m wanted d) made i w so_far (slice_get-asked_of m wanted d i b x v on asked at ∙ ap (λ y. Some y) (sym is))

-- ---- all values

-- both are as long as the shortest
length-only : (l : Layout) (m : Mask) (d : Desc) → (length (only l m d) ≤ length l) × (length (only l m d) ≤ length m) × (length (only l m d) ≤ length d)
length-only [] m d = (omega arith, omega arith, omega arith)
length-only (p ∷ ps) [] d = (omega arith, omega arith, omega arith)
length-only (p ∷ ps) (b ∷ bs) [] = (omega arith, omega arith, omega arith)
length-only (p ∷ ps) (b ∷ bs) (v ∷ d) = let rest = length-only ps bs d in (omega (arith, rest.0), omega (arith, rest.1), omega (arith, rest.2))

length-asked_of : (m : Mask) (wanted d : Desc) → (length (asked_of m wanted d) ≤ length m) × (length (asked_of m wanted d) ≤ length wanted) × (length (asked_of m wanted d) ≤ length d)
length-asked_of [] wanted d = (omega arith, omega arith, omega arith)
length-asked_of (b ∷ bs) [] d = (omega arith, omega arith, omega arith)
length-asked_of (b ∷ bs) (w ∷ wanted) [] = (omega arith, omega arith, omega arith)
length-asked_of (b ∷ bs) (w ∷ wanted) (v ∷ d) = let rest = length-asked_of bs wanted d in (omega (arith, rest.0), omega (arith, rest.1), omega (arith, rest.2))

-- a number of places up to which all three go, and past which some one does not
abbrev pub IsLeast : ℕ → ℕ → ℕ → ℕ → Type 0
IsLeast a b c n = (k : ℕ) → k ≤ a → k ≤ b → k ≤ c → k ≤ n

pub take-only : (l : Layout) (m : Mask) (d : Desc) (n i : ℕ) → IsLeast (length l) (length m) (length d) n → n ≤ i → take i (only l m d) ≡ only l m d
take-only l m d n i least all = let short = length-only l m d in take_all i (only l m d) (omega (arith, least (length (only l m d)) short.0 short.1 short.2))

pub take-asked_of : (m : Mask) (wanted d : Desc) (n i : ℕ) → IsLeast (length m) (length wanted) (length d) n → n ≤ i → take i (asked_of m wanted d) ≡ asked_of m wanted d
take-asked_of m wanted d n i least all = let short = length-asked_of m wanted d in take_all i (asked_of m wanted d) (omega (arith, least (length (asked_of m wanted d)) short.0 short.1 short.2))

pub ruleset made_laws = (only-more, asked-more, take-only, take-asked_of)

-- ---- a test of each value

fits-next : (l : Layout) (d : Desc) (i : ℕ) (k : Kind) (v : Value) → option_map (λ p. p.kind) (slice_get l i) ≡ Some k → slice_get d i ≡ Some v → fits (drop i l) (drop i d) ≡ (has_kind k v && fits (drop (suc i) l) (drop (suc i) d))
fits-next [] d i k v kind at = cc
fits-next (p ∷ ps) [] i k v kind at = cc
fits-next (p ∷ ps) (w ∷ d) zero k v kind at =
    let same : p.kind ≡ k = cc in
    let one : w ≡ v = cc in
    ap (λ j. has_kind j w && fits ps d) same ∙ ap (λ u. has_kind k u && fits ps d) one
fits-next (p ∷ ps) (w ∷ d) (suc i) k v kind at = fits-next ps d i k v kind at

pub fits-more : (l : Layout) (d : Desc) (i : ℕ) (k : Kind) (v : Value) → option_map (λ p. p.kind) (slice_get l i) ≡ Some k → slice_get d i ≡ Some v → has_kind k v ≡ true → fits (drop (i + 1) l) (drop (i + 1) d) ≡ fits (drop i l) (drop i d)
fits-more l d i k v kind at is = simp add-one (ap (λ b. b && fits (drop (suc i) l) (drop (suc i) d)) (sym is) ∙ sym (fits-next l d i k v kind at))

pub fits-wrong : (l : Layout) (d : Desc) (i : ℕ) (k : Kind) (v : Value) → option_map (λ p. p.kind) (slice_get l i) ≡ Some k → slice_get d i ≡ Some v → has_kind k v ≡ false → fits (drop i l) (drop i d) ≡ false
fits-wrong l d i k v kind at is = fits-next l d i k v kind at ∙ ap (λ b. b && fits (drop (suc i) l) (drop (suc i) d)) is

pub fits-unlike : (l : Layout) (d : Desc) → length d ≢ length l → fits l d ≡ false
fits-unlike l d unlike =
    elim (fits l d) as (λ b. fits l d ≡ b → fits l d ≡ false) [
      | true ↦ λ fit. absurd (unlike (length-fits l d fit))
      | false ↦ λ is. is
    ] refl

pub ruleset test_laws = (fits-more, fits-wrong, fits-unlike)
