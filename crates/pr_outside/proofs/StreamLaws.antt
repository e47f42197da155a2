-- Bytes that are taken from a reader, and given to a writer, in pieces.
use Rattle.std.specs.Prelude.{Bool, true, false, ◌==◌, if◌then◌else◌}
use Rattle.std.proofs.Common.{◌≡◌, ℕ, ◌+◌, ◌<◌, ◌≤◌, List, [], ◌∷◌, ◌++◌, length, take, drop, Option, Some, None, refl, sym, ◌∙◌, ap, subst, arith}
use Rattle.std.specs.Io.KnownBytes.{Appends, Keeps, Consumes, IsAtEnd}
use Rattle.std.proofs.lemmas.List.{take-append-drop, append_assoc, append-nil, length-append, length-take, take_all, nil_from_length}
use Rattle.std.proofs.lemmas.Bool.{eqb-true}
use Rattle.std.proofs.Math.Seq.{take-append_seam}
use Rattle.pr_outside.specs.Streams.{IsReadUpTo, AppendsSome}
use Rattle.pr_outside.specs.Fetched.{AreLeft}

appends_more : (a b c : Option (List ℕ)) (xs ys : List ℕ) → Appends a b xs → Appends b c ys → Appends a c (xs ++ ys)
appends_more None b c xs ys p q = tt
appends_more (Some x) None c xs ys p q = absurd p
appends_more (Some x) (Some y) None xs ys p q = absurd q
appends_more (Some x) (Some y) (Some z) xs ys p q = q ∙ (ap (λ (w : List ℕ). w ++ ys) p ∙ append_assoc x xs ys)

-- what was appended so far, and what is left
abbrev pub Wrote : Option (List ℕ) → Option (List ℕ) → List ℕ → List ℕ → Type 0
Wrote old now bytes rest = (front : List ℕ) × (bytes ≡ front ++ rest) × Appends old now front

pub wrote_none : (old : Option (List ℕ)) (bytes : List ℕ) → Wrote old old bytes bytes
wrote_none None bytes = ([], refl, tt)
wrote_none (Some x) bytes = ([], refl, sym (append-nil x))

pub wrote_more : (a b c : Option (List ℕ)) (bytes rest : List ℕ) (n : ℕ) → Wrote a b bytes rest → Appends b c (take n rest) → Wrote a c bytes (drop n rest)
wrote_more a b c bytes rest n (front, is, appends) more =
    (front ++ take n rest, is ∙ (ap (λ (w : List ℕ). front ++ w) (sym (take-append-drop n rest)) ∙ sym (append_assoc front (take n rest) (drop n rest))), appends_more a b c front (take n rest) appends more)

pub wrote_some : (a b : Option (List ℕ)) (bytes rest : List ℕ) → Wrote a b bytes rest → AppendsSome a b bytes
wrote_some a b bytes rest (front, is, appends) =
    let long : length bytes ≡ length front + length rest = ap length is ∙ length-append front rest in
    let first : take (length front) bytes ≡ front = ap (take (length front)) is ∙ take-append_seam front rest in
    (length front, omega (arith, long), subst (λ (w : List ℕ). Appends a b w) (sym first) appends)

pub wrote_all : (a b : Option (List ℕ)) (bytes rest : List ℕ) → rest ≡ [] → Wrote a b bytes rest → Appends a b bytes
wrote_all a b bytes rest none (front, is, appends) =
    let same : bytes ≡ front = is ∙ (ap (λ (w : List ℕ). front ++ w) none ∙ append-nil front) in
    subst (λ (w : List ℕ). Appends a b w) (sym same) appends

keeps_wrote : (a b c : Option (List ℕ)) (xs : List ℕ) → Appends a b xs → Keeps b c → Appends a c xs
keeps_wrote None b c xs p q = tt
keeps_wrote (Some x) None c xs p q = absurd p
keeps_wrote (Some x) (Some y) None xs p q = absurd q
keeps_wrote (Some x) (Some y) (Some z) xs p q = q ∙ p

pub wrote_kept : (a b c : Option (List ℕ)) (bytes rest : List ℕ) → Wrote a b bytes rest → Keeps b c → Wrote a c bytes rest
wrote_kept a b c bytes rest (front, is, appends) keeps = (front, is, keeps_wrote a b c front appends keeps)

-- ---- readers

pub consumes_none : (a : Option (List ℕ)) → Consumes a a []
consumes_none None = tt
consumes_none (Some x) = refl

pub consumes_more : (a b c : Option (List ℕ)) (xs ys : List ℕ) → Consumes a b xs → Consumes b c ys → Consumes a c (xs ++ ys)
consumes_more None b c xs ys p q = tt
consumes_more (Some x) None c xs ys p q = absurd p
consumes_more (Some x) (Some y) None xs ys p q = absurd q
consumes_more (Some x) (Some y) (Some z) xs ys p q = p ∙ (ap (λ (w : List ℕ). xs ++ w) q ∙ sym (append_assoc xs ys z))

take_whole : (n : ℕ) (xs ys : List ℕ) → n ≡ length xs → take n (xs ++ ys) ≡ xs
take_whole n xs ys e = ap (λ (k : ℕ). take k (xs ++ ys)) e ∙ take-append_seam xs ys

-- as many as may be taken
pub read_full : (a b : Option (List ℕ)) (most : ℕ) (xs : List ℕ) → length xs ≡ most + 1 → Consumes a b xs → IsReadUpTo a most xs
read_full None b most xs n p = omega (arith, n)
read_full (Some x) None most xs n p = absurd p
read_full (Some x) (Some y) most xs n p = sym (ap (take (most + 1)) p ∙ take_whole (most + 1) xs y (sym n))

-- all that was left
pub read_end : (a b c : Option (List ℕ)) (most : ℕ) (xs ys : List ℕ) → length xs ≤ most → ys ≡ [] → Consumes a b xs → Consumes b c ys → IsAtEnd c → IsReadUpTo a most xs
read_end None b c most xs ys few none p q end = omega (arith, few)
read_end (Some x) None c most xs ys few none p q end = absurd p
read_end (Some x) (Some y) None most xs ys few none p q end = absurd q
read_end (Some x) (Some y) (Some z) most xs ys few none p q end =
    let left : y ≡ [] = q ∙ (ap (λ (w : List ℕ). w ++ z) none ∙ end) in
    let whole : x ≡ xs = p ∙ (ap (λ (w : List ℕ). xs ++ w) left ∙ append-nil xs) in
    whole_taken xs x (most + 1) (sym whole) (omega (arith, few)) where
      whole_taken : (xs x : List ℕ) (n : ℕ) → xs ≡ x → length xs ≤ n → xs ≡ take n x
      whole_taken xs x n e few = sym (ap (take n) (sym e) ∙ take_all n xs few)

pub empty_is : (xs : List ℕ) → (length xs == 0) ≡ true → xs ≡ []
empty_is xs e = nil_from_length xs (eqb-true (length xs) 0 e)

-- a vector that had room for what was appended
pub appended : (items more new : List ℕ) (b : Bool) → b ≡ true → new ≡ (if b then items ++ more else items) → new ≡ items ++ more
appended items more new true t e = e
appended items more new false t e = cc t

-- bytes that are no more than may be are all that was left
pub read_left : (a : Option (List ℕ)) (most : ℕ) (xs : List ℕ) → length xs ≤ most → IsReadUpTo a most xs → AreLeft a xs
read_left None most xs few is = tt
read_left (Some left) most xs few is = let long : length xs ≡ length (take (most + 1) left) = ap length is in let cut = length-take (most + 1) left in is ∙ take_all (most + 1) left (omega (arith, few, long, cut))
