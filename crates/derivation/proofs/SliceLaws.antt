-- Which lines a slice keeps, and how it numbers them.
use Rattle.std.proofs.Common.{◌≡◌, ℕ, zero, suc, ◌+◌, ◌-◌, ◌<◌, ◌≤◌, Bool, true, false, cond, List, [], ◌∷◌, ◌++◌, length, drop, Some, slice_get, slice_set, slice_index, slice_index_or, refl, ap, sym, ◌∙◌, subst, arith, inl, inr, true≢false, append_assoc, zero-add, take}
use Rattle.std.specs.Prelude.{◌⊎◌, All, AllPairs, Contains, ltb}
use Rattle.std.specs.List.{AllZip}
use Rattle.std.proofs.lemmas.Bool.{lt-ltb, le-ltb}
use Rattle.derivation.proofs.TableLaws.{at_end}
use Rattle.derivation.specs.declared.reason.Line.{Line}
use Rattle.derivation.specs.declared.reason.Reason.{Reason}
use Rattle.derivation.specs.declared.reason.Reason.TheVariants.{Query, Part, Rule, Turn, Chain, Inside}
use Rattle.derivation.specs.Log.{AreBackward}
use Rattle.derivation.specs.Slices.{rests_on, renumbered, smaller, IsNeeded, itself, under, IsRenumbered, IsSlice, one_if}
use Rattle.derivation.specs.Marks.{IsMarked, marked, IsMarking, AreMarked, places_from, marked_from, relined, kept_lines}

some_is : {A : Type 0} (a b : A) → Some a ≡ Some b → a ≡ b
some_is a b e = cc

within : {A : Type 0} (xs : List A) (i : ℕ) (x : A) → slice_get xs i ≡ Some x → i < length xs
within [] i x e = cc
within (y ∷ xs) zero x e = omega arith
within (y ∷ xs) (suc i) x e = let h = within xs i x e in omega (arith, h)

contained : (P : ℕ → Type 0) (ns : List ℕ) (n : ℕ) → All P ns → Contains ns n → P n
contained P ns n all (k, h, e) = subst P e (all k n h)

set_same : (ms : List Bool) (n : ℕ) → n < length ms → IsMarked (slice_set ms n true) n
set_same [] n h = let e : ⊥ = omega (arith, h) in absurd e
set_same (m ∷ ms) zero h = refl
set_same (m ∷ ms) (suc n) h = set_same ms n (omega (arith, h))

set_keeps : (ms : List Bool) (n m : ℕ) → IsMarked ms m → IsMarked (slice_set ms n true) m
set_keeps [] n m h = h
set_keeps (b ∷ ms) zero zero h = refl
set_keeps (b ∷ ms) zero (suc m) h = h
set_keeps (b ∷ ms) (suc n) zero h = h
set_keeps (b ∷ ms) (suc n) (suc m) h = set_keeps ms n m h

set_back : (ms : List Bool) (n m : ℕ) → IsMarked (slice_set ms n true) m → IsMarked ms m ⊎ (n ≡ m)
set_back [] n m h = inl h
set_back (b ∷ ms) zero zero h = inr refl
set_back (b ∷ ms) zero (suc m) h = inl h
set_back (b ∷ ms) (suc n) zero h = inl h
set_back (b ∷ ms) (suc n) (suc m) h = elim (set_back ms n m h) [ inl k ↦ inl k | inr e ↦ inr (ap suc e) ]

length_set : (ms : List Bool) (n : ℕ) → length (slice_set ms n true) ≡ length ms
length_set [] n = refl
length_set (b ∷ ms) zero = refl
length_set (b ∷ ms) (suc n) = ap suc (length_set ms n)

marked_long : (ms : List Bool) (ns : List ℕ) → length (marked ms ns) ≡ length ms
marked_long ms [] = refl
marked_long ms (n ∷ ns) = marked_long (slice_set ms n true) ns ∙ length_set ms n

marked_keeps : (ms : List Bool) (ns : List ℕ) (m : ℕ) → IsMarked ms m → IsMarked (marked ms ns) m
marked_keeps ms [] m h = h
marked_keeps ms (n ∷ ns) m h = marked_keeps (slice_set ms n true) ns m (set_keeps ms n m h)

marked_back : (ms : List Bool) (ns : List ℕ) (m : ℕ) → IsMarked (marked ms ns) m → IsMarked ms m ⊎ Contains ns m
marked_back ms [] m h = inl h
marked_back ms (n ∷ ns) m h = elim (marked_back (slice_set ms n true) ns m h) [
  | inl k ↦ elim (set_back ms n m k) [ inl j ↦ inl j | inr e ↦ inr (0, omega arith, e) ]
  | inr c ↦ inr (suc c.0, (let w = c.1 in omega (arith, w)), c.2)
]

marked_all : (ms : List Bool) (ns : List ℕ) → All (λ n. n < length ms) ns → All (IsMarked (marked ms ns)) ns
marked_all ms [] all i d w = let e : ⊥ = omega (arith, w) in absurd e
marked_all ms (n ∷ ns) all zero d w = marked_keeps (slice_set ms n true) ns n (set_same ms n (all 0 d w))
marked_all ms (n ∷ ns) all (suc i) d w =
    marked_all (slice_set ms n true) ns (λ j e v. subst (λ k. slice_index_or ns j e < k) (sym (length_set ms n)) (all (suc j) e (omega (arith, v)))) i d (omega (arith, w))

pub begin_marking : (lines : List Line) (given : List ℕ) (falses : List Bool) → length falses ≡ length lines → ((i : ℕ) (b : Bool) → slice_get falses i ≡ Some b → b ≡ false) → All (λ n. n < length lines) given
    → IsMarking lines given (marked falses given) (length lines)
begin_marking lines given falses long none there = record {
  long = marked_long falses given ∙ long;
  needed = λ n h. elim (marked_back falses given n h) [ inl k ↦ absurd (true≢false (none n true k)) | inr c ↦ itself c ];
  starts = marked_all falses given (subst (λ k. All (λ n. n < k) given) (sym long) there);
  closed = λ m l low at h. let w = within lines m l at in let e : ⊥ = omega (arith, low, w) in absurd e;
}

marked_at : (ms : List Bool) (i : ℕ) → slice_index_or ms i false ≡ true → IsMarked ms i
marked_at [] i e = absurd (true≢false (sym e))
marked_at (m ∷ ms) zero e = ap Some e
marked_at (m ∷ ms) (suc i) e = marked_at ms i e

not_marked_at : (ms : List Bool) (i : ℕ) → slice_index_or ms i false ≡ false → IsMarked ms i → ⊥
not_marked_at [] i e h = cc
not_marked_at (m ∷ ms) zero e h = true≢false (sym (some_is m true h) ∙ e)
not_marked_at (m ∷ ms) (suc i) e h = not_marked_at ms i e h

at_or_above : (i m : ℕ) → i ≤ m → (i ≡ m) ⊎ (suc i ≤ m)
at_or_above zero zero h = inl refl
at_or_above zero (suc m) h = inr (omega arith)
at_or_above (suc i) zero h = let e : ⊥ = omega (arith, h) in absurd e
at_or_above (suc i) (suc m) h = elim (at_or_above i m (omega (arith, h))) [ inl e ↦ inl (ap suc e) | inr k ↦ inr (omega (arith, k)) ]

module _ (lines : List Line) (given : List ℕ) (ms : List Bool) (i : ℕ) (l : Line) (at : slice_get lines i ≡ Some l) (backward : AreBackward lines) (old : IsMarking lines given ms (suc i)) where
  with_marks : slice_index_or ms i false ≡ true → IsMarking lines given (marked ms (rests_on l.why)) i
  with_marks is =
      let here : IsMarked ms i = marked_at ms i is in
      let low : All (λ n. n < length ms) (rests_on l.why) = λ j d w. let b = backward i l at j d w in let v = within lines i l at in let long = old.long in omega (arith, b, v, long) in
      record {
        long = marked_long ms (rests_on l.why) ∙ old.long;
        needed = λ n h. elim (marked_back ms (rests_on l.why) n h) [ inl k ↦ old.needed n k | inr c ↦ under l (old.needed i here) at c ];
        starts = λ j d w. marked_keeps ms (rests_on l.why) (slice_index_or given j d) (old.starts j d w);
        closed = λ m k above at_k h. elim (at_or_above i m above) [
          | inl e ↦ subst (λ (x : Line). All (IsMarked (marked ms (rests_on l.why))) (rests_on x.why)) (some_is l k (sym at ∙ ap (λ j. slice_get lines j) e ∙ at_k)) (marked_all ms (rests_on l.why) low)
          | inr up ↦ elim (marked_back ms (rests_on l.why) m h) [
            | inl o ↦ λ j d w. marked_keeps ms (rests_on l.why) (slice_index_or (rests_on k.why) j d) (old.closed m k up at_k o j d w)
            | inr c ↦ let b : m < i = contained (λ n. n < i) (rests_on l.why) m (backward i l at) c in let e : ⊥ = omega (arith, b, up) in absurd e
          ]
        ];
      }

  without_marks : slice_index_or ms i false ≡ false → IsMarking lines given ms i
  without_marks is = record {
    long = old.long;
    needed = old.needed;
    starts = old.starts;
    closed = λ m k above at_k h. elim (at_or_above i m above) [
      | inl e ↦ absurd (not_marked_at ms i is (subst (IsMarked ms) (sym e) h))
      | inr up ↦ old.closed m k up at_k h
    ];
  }

  pub step_marking : IsMarking lines given (cond (slice_index_or ms i false) (marked ms (rests_on l.why)) ms) i
  step_marking = by (slice_index_or ms i false) refl
    where
      by : (b : Bool) → slice_index_or ms i false ≡ b → IsMarking lines given (cond b (marked ms (rests_on l.why)) ms) i
      by true e = with_marks e
      by false e = without_marks e

pub finish_marking : (lines : List Line) (given : List ℕ) (ms : List Bool) → IsMarking lines given ms 0 → AreMarked lines given ms
finish_marking lines given ms m' = record {
  long = m'.long;
  exactly = λ n. (m'.needed n, down n);
}
  where
    down : (n : ℕ) → IsNeeded lines given n → IsMarked ms n
    down n (itself c) = contained (IsMarked ms) given n m'.starts c
    down n (under {m} l p at c) = contained (IsMarked ms) (rests_on l.why) n (m'.closed m l (omega arith) at (down m p)) c

smaller_low : (k n : ℕ) (ms : List Bool) → n ≤ k → smaller (marked_from k ms) n ≡ 0
smaller_low k n [] h = refl
smaller_low k n (true ∷ ms) h = let rest = smaller_low (suc k) n ms (omega (arith, h)) in (λ i. one_if (le-ltb k n h i) + rest i)
smaller_low k n (false ∷ ms) h = smaller_low (suc k) n ms (omega (arith, h))

-- the place of a number is how many marks stand before it
place_at : (c k n : ℕ) (ms : List Bool) → n < length ms → slice_index (places_from c ms) n ≡ c + smaller (marked_from k ms) (k + n)
place_at c k n [] h = let e : ⊥ = omega (arith, h) in absurd e
place_at c k zero (m ∷ ms) h = let low = smaller_low k (k + zero) (m ∷ ms) (omega arith) in omega (arith, low)
place_at c k (suc n) (true ∷ ms) h =
    let rest = place_at (c + one_if true) (suc k) n ms (omega (arith, h)) in
    let here : one_if (ltb k (k + suc n)) ≡ one_if true = ap one_if (lt-ltb k (k + suc n) (omega arith)) in
    let shift : smaller (marked_from (suc k) ms) (suc k + n) ≡ smaller (marked_from (suc k) ms) (k + suc n) = ap (λ w. smaller (marked_from (suc k) ms) w) (let e : suc k + n ≡ k + suc n = omega arith in e) in
    omega (arith, rest, here, shift)
place_at c k (suc n) (false ∷ ms) h =
    let rest = place_at (c + one_if false) (suc k) n ms (omega (arith, h)) in
    let shift : smaller (marked_from (suc k) ms) (suc k + n) ≡ smaller (marked_from (suc k) ms) (k + suc n) = ap (λ w. smaller (marked_from (suc k) ms) w) (let e : suc k + n ≡ k + suc n = omega arith in e) in
    omega (arith, rest, shift)

all_from : (k : ℕ) (ms : List Bool) → All (λ n. k ≤ n) (marked_from k ms)
all_from k [] i d w = let e : ⊥ = omega (arith, w) in absurd e
all_from k (true ∷ ms) zero d w = omega arith
all_from k (true ∷ ms) (suc i) d w = let h = all_from (suc k) ms i d (omega (arith, w)) in omega (arith, h)
all_from k (false ∷ ms) i d w = let h = all_from (suc k) ms i d w in omega (arith, h)

ascend : (k : ℕ) (ms : List Bool) → AllPairs (λ m n. m < n) (marked_from k ms)
ascend k [] i j d h w = let e : ⊥ = omega (arith, w) in absurd e
ascend k (true ∷ ms) i zero d h w = let e : ⊥ = omega (arith, h) in absurd e
ascend k (true ∷ ms) zero (suc j) d h w = all_from (suc k) ms j d (omega (arith, w))
ascend k (true ∷ ms) (suc i) (suc j) d h w = ascend (suc k) ms i j d (omega (arith, h)) (omega (arith, w))
ascend k (false ∷ ms) i j d h w = ascend (suc k) ms i j d h w

in_marks : (k n : ℕ) (ms : List Bool) → IsMarked ms n → Contains (marked_from k ms) (k + n)
in_marks k n [] h = cc
in_marks k zero (true ∷ ms) h = (0, omega arith, omega arith)
in_marks k zero (false ∷ ms) h = absurd (true≢false (sym (some_is false true h)))
in_marks k (suc n) (true ∷ ms) h =
    let c = in_marks (suc k) n ms h in let e : suc k + n ≡ k + suc n = omega arith in
    let d : Contains (marked_from (suc k) ms) (k + suc n) = subst (Contains (marked_from (suc k) ms)) e c in (suc d.0, (let w = d.1 in omega (arith, w)), d.2)
in_marks k (suc n) (false ∷ ms) h = let c = in_marks (suc k) n ms h in let e : suc k + n ≡ k + suc n = omega arith in subst (Contains (marked_from (suc k) ms)) e c

of_marks : (k n : ℕ) (ms : List Bool) → Contains (marked_from k ms) n → (j : ℕ) × (n ≡ k + j) × IsMarked ms j
of_marks k n [] (i, w, e) = let b : ⊥ = omega (arith, w) in absurd b
of_marks k n (true ∷ ms) (zero, w, e) = (0, omega (arith, e), refl)
of_marks k n (true ∷ ms) (suc i, w, e) = let (j, is, h) = of_marks (suc k) n ms (i, omega (arith, w), e) in (suc j, omega (arith, is), h)
of_marks k n (false ∷ ms) c = let (j, is, h) = of_marks (suc k) n ms c in (suc j, omega (arith, is), h)

renumbered_same : (f g : ℕ → ℕ) (why : Reason) → All (λ n. f n ≡ g n) (rests_on why) → renumbered f why ≡ renumbered g why
renumbered_same f g Query all = refl
renumbered_same f g (Part of at) all = ap (λ n. Part n at) (all 0 0 (omega arith))
renumbered_same f g (Rule of r) all = ap (λ n. Rule n r) (all 0 0 (omega arith))
renumbered_same f g (Turn of) all = ap (λ n. Turn n) (all 0 0 (omega arith))
renumbered_same f g (Chain first second) all = let a = all 0 0 (omega arith) in let b = all 1 0 (omega arith) in (λ i. Chain (a i) (b i))
renumbered_same f g (Inside of at by) all = let a = all 0 0 (omega arith) in let b = all 1 0 (omega arith) in (λ i. Inside (a i) at (b i))

get_behind : {A : Type 0} (done : List A) (x : A) (xs : List A) → slice_get (done ++ x ∷ xs) (length done) ≡ Some x
get_behind [] x xs = refl
get_behind (y ∷ done) x xs = get_behind done x xs

append_one : {A : Type 0} (xs : List A) (y : A) (ys : List A) → (xs ++ y ∷ []) ++ ys ≡ xs ++ y ∷ ys
append_one [] y ys = refl
append_one (x ∷ xs) y ys = ap (λ r. x ∷ r) (append_one xs y ys)

length_more : {A : Type 0} (xs : List A) (y : A) → length (xs ++ y ∷ []) ≡ suc (length xs)
length_more [] y = refl
length_more (x ∷ xs) y = ap suc (length_more xs y)

module _ (lines : List Line) (kept places : List ℕ) (backward : AreBackward lines) (agree : (n : ℕ) → n < length lines → slice_index places n ≡ smaller kept n) where
  kept_zip : (front ls : List Line) (ms : List Bool) → lines ≡ front ++ ls → length ms ≡ length ls → AllZip (IsRenumbered lines kept) (marked_from (length front) ms) (kept_lines places ms ls)
  kept_zip front ls [] is long = tt
  kept_zip front [] (m ∷ ms) is long = let e : ⊥ = omega (arith, long) in absurd e
  kept_zip front (l ∷ ls) (m ∷ ms) is long =
      let rest : AllZip (IsRenumbered lines kept) (marked_from (suc (length front)) ms) (kept_lines places ms ls) =
      subst (λ k. AllZip (IsRenumbered lines kept) (marked_from k ms) (kept_lines places ms ls)) (length_more front l) (kept_zip (front ++ l ∷ []) ls ms (is ∙ sym (append_one front l ls)) (omega (arith, long))) in
      let at : slice_get lines (length front) ≡ Some l = ap (λ w. slice_get w (length front)) is ∙ get_behind front l ls in
      let why : renumbered (slice_index places) l.why ≡ renumbered (smaller kept) l.why =
      renumbered_same (slice_index places) (smaller kept) l.why (λ j d w. agree (slice_index_or (rests_on l.why) j d) (let b = backward (length front) l at j d w in let v = within lines (length front) l at in omega (arith, b, v))) in
      let here : IsRenumbered lines kept (length front) (relined places l) = (l, at, λ i. record { left = l.left; right = l.right; why = why i; depth = l.depth }) in
      by m here rest
    where
      by : (m : Bool) → IsRenumbered lines kept (length front) (relined places l) → AllZip (IsRenumbered lines kept) (marked_from (suc (length front)) ms) (kept_lines places ms ls) → AllZip (IsRenumbered lines kept) (marked_from (length front) (m ∷ ms)) (kept_lines places (m ∷ ms) (l ∷ ls))
      by true here rest = (here, rest)
      by false here rest = rest

pub is_slice : (lines : List Line) (given places : List ℕ) (ms : List Bool) → AreBackward lines → AreMarked lines given ms → places ≡ places_from 0 ms → IsSlice lines given (kept_lines places ms lines)
is_slice lines given places ms backward are is = (
  marked_from 0 ms,
  ascend 0 ms,
  λ n. (
    λ c. let (j, same, h) = of_marks 0 n ms c in (are.exactly n).0 (subst (IsMarked ms) (sym (same ∙ zero-add j)) h),
    λ need. subst (Contains (marked_from 0 ms)) (zero-add n) (in_marks 0 n ms ((are.exactly n).1 need)),
  ),
  kept_zip lines (marked_from 0 ms) places backward (λ n w. ap (λ ps. slice_index ps n) is ∙ place_at 0 0 n ms (let long = are.long in omega (arith, w, long)) ∙ zero-add (smaller (marked_from 0 ms) (0 + n)) ∙ ap (smaller (marked_from 0 ms)) (zero-add n)) [] lines ms refl are.long,
)

drop_at : {A : Type 0} (xs : List A) (i : ℕ) (x : A) → slice_get xs i ≡ Some x → drop i xs ≡ x ∷ drop (suc i) xs
drop_at [] i x e = cc
drop_at (y ∷ xs) zero x e = ap (λ w. w ∷ xs) (some_is y x e)
drop_at (y ∷ xs) (suc i) x e = drop_at xs i x e

-- one more mark, and what stands before it
pub places_step : (ms : List Bool) (out all : List ℕ) (i count : ℕ) (m : Bool) → slice_get ms i ≡ Some m → out ++ places_from count (drop i ms) ≡ all → (out ++ count ∷ []) ++ places_from (count + one_if m) (drop (suc i) ms) ≡ all
places_step ms out all i count m at is = append_one out count (places_from (count + one_if m) (drop (suc i) ms)) ∙ ap (λ w. out ++ places_from count w) (sym (drop_at ms i m at)) ∙ is

kept_cons : (places : List ℕ) (m : Bool) (ms : List Bool) (l : Line) (ls : List Line) → kept_lines places (m ∷ ms) (l ∷ ls) ≡ kept_lines places (m ∷ []) (l ∷ []) ++ kept_lines places ms ls
kept_cons places true ms l ls = refl
kept_cons places false ms l ls = refl

-- one more line, where it is marked
pub kept_step : (places : List ℕ) (ms : List Bool) (ls out out' all : List Line) (i : ℕ) (m : Bool) (l : Line) → slice_get ms i ≡ Some m → slice_get ls i ≡ Some l → out' ≡ out ++ kept_lines places (m ∷ []) (l ∷ [])
    → out ++ kept_lines places (drop i ms) (drop i ls) ≡ all → out' ++ kept_lines places (drop (suc i) ms) (drop (suc i) ls) ≡ all
kept_step places ms ls out out' all i m l at_m at_l put is =
    ap (λ w. w ++ kept_lines places (drop (suc i) ms) (drop (suc i) ls)) put
    ∙ append_assoc out (kept_lines places (m ∷ []) (l ∷ [])) (kept_lines places (drop (suc i) ms) (drop (suc i) ls))
    ∙ ap (λ w. out ++ w) (sym (kept_cons places m (drop (suc i) ms) l (drop (suc i) ls)))
    ∙ (λ j. out ++ kept_lines places (sym (drop_at ms i m at_m) j) (sym (drop_at ls i l at_l) j))
    ∙ is

pub places_long : (k : ℕ) (ms : List Bool) → length (places_from k ms) ≡ length ms
places_long k [] = refl
places_long k (m ∷ ms) = ap suc (places_long (k + one_if m) ms)

pub sliced : (lines : List Line) (given places places' : List ℕ) (ms ms' ms'' : List Bool) (out : List Line) → AreBackward lines → AreMarked lines given ms → places ≡ places_from 0 ms' → ms' ≡ ms → ms'' ≡ ms → places' ≡ places
    → out ≡ kept_lines places' ms'' lines → IsSlice lines given out
sliced lines given places places' ms ms' ms'' out backward are is same same' same'' made =
    subst (IsSlice lines given) (sym (made ∙ (λ i. kept_lines (same'' i) (same' i) lines))) (is_slice lines given places ms backward are (is ∙ ap (places_from 0) same))

-- one number more is marked
pub marked_more : (first ms : List Bool) (ns : List ℕ) (i : ℕ) → i < length ns → ms ≡ marked first (take i ns) → slice_set ms (slice_index_or ns i 0) true ≡ marked first (take (suc i) ns)
marked_more first ms [] i h is = let e : ⊥ = omega (arith, h) in absurd e
marked_more first ms (n ∷ ns) zero h is = ap (λ w. slice_set w n true) is
marked_more first ms (n ∷ ns) (suc i) h is = marked_more (slice_set first n true) ms ns i (omega (arith, h)) is

pub unmarked_more : (ms more : List Bool) → more ≡ ms ++ false ∷ [] → ((i : ℕ) (b : Bool) → slice_get ms i ≡ Some b → b ≡ false) → (i : ℕ) (b : Bool) → slice_get more i ≡ Some b → b ≡ false
unmarked_more ms more is none i b at = elim (at_end ms false i b (ap (λ w. slice_get w i) (sym is) ∙ at)) [ inl h ↦ none i b h | inr h ↦ sym h.0 ]

index_is : {A : Type 0} (xs : List A) (i : ℕ) (d : A) → i < length xs → slice_get xs i ≡ Some (slice_index_or xs i d)
index_is [] i d h = let e : ⊥ = omega (arith, h) in absurd e
index_is (x ∷ xs) zero d h = refl
index_is (x ∷ xs) (suc i) d h = index_is xs i d (omega (arith, h))

-- the line before a number names lines that are there
pub names_there : (lines : List Line) (ms : List Bool) (i : ℕ) (d : Line) → 0 < i → i ≤ length lines → length ms ≡ length lines → AreBackward lines → All (λ n. n < length ms) (rests_on (slice_index_or lines (i - 1) d).why)
names_there lines ms i d some high long backward j e w =
    let b = backward (i - 1) (slice_index_or lines (i - 1) d) (index_is lines (i - 1) d (omega arith)) j e w in omega (arith, b, long, high)

pub marking_down : (lines : List Line) (given : List ℕ) (ms more : List Bool) (i : ℕ) (d : Line) → 0 < i → i ≤ length lines → AreBackward lines → IsMarking lines given ms i
    → more ≡ cond (slice_index_or ms (i - 1) false) (marked ms (rests_on (slice_index_or lines (i - 1) d).why)) ms → IsMarking lines given more (i - 1)
marking_down lines given ms more i d some high backward old is =
    let one : i ≡ suc (i - 1) = omega arith in
    subst (λ w. IsMarking lines given w (i - 1)) (sym is)
    (step_marking lines given ms (i - 1) (slice_index_or lines (i - 1) d) (index_is lines (i - 1) d (omega arith)) backward (subst (IsMarking lines given ms) one old))
