-- Goals that match, as more goals are kept.
use Rattle.std.proofs.Common.{◌≡◌, ◌≢◌, ℕ, zero, suc, ◌+◌, ◌≤◌, ◌<◌, ◌⊎◌, Bool, true, false, List, [], ◌∷◌, length, replicate, Option, Some, slice_get, slice_set, refl, ap, sym, ◌∙◌, subst, arith, inl, inr}
use Rattle.std.specs.List.{AllZip, AllByRecursion}
use Rattle.std.proofs.lemmas.Bool.{cases_eq}
use Rattle.best_plan.specs.Moves.{Graph, Reaches, AreMoves}
use Rattle.replan.specs.Carried.{Form, KeptAs, Matches, flagged}

pub none_match : {A : Type 0} → true ≡ false → A
none_match e = cc

-- flags, and one more
pub flag_set : (flags : List Bool) (g : ℕ) → g < length flags → flagged (slice_set flags g true) g ≡ true
flag_set [] g l = absurd (omega (arith, l))
flag_set (f ∷ fs) zero l = refl
flag_set (f ∷ fs) (suc g) l = flag_set fs g (omega (arith, l))

pub flag_other : (flags : List Bool) (g h : ℕ) → h ≢ g → flagged (slice_set flags g true) h ≡ flagged flags h
flag_other [] g h d = refl
flag_other (f ∷ fs) zero zero d = absurd (d refl)
flag_other (f ∷ fs) zero (suc h) d = refl
flag_other (f ∷ fs) (suc g) zero d = refl
flag_other (f ∷ fs) (suc g) (suc h) d = flag_other fs g h (λ e. d (ap suc e))

pub flags_long : (flags : List Bool) (g : ℕ) → length (slice_set flags g true) ≡ length flags
flags_long [] g = refl
flags_long (f ∷ fs) zero = refl
flags_long (f ∷ fs) (suc g) = ap suc (flags_long fs g)

pub no_flags : (n g : ℕ) → flagged (replicate n false) g ≡ false
no_flags zero g = refl
no_flags (suc n) zero = refl
no_flags (suc n) (suc g) = no_flags n g

-- flags agree below a rank
abbrev pub Agree : (ℕ → ℕ) → ℕ → (ℕ → Bool) → (ℕ → Bool) → Type 0
Agree rank top kept kept' = (g : ℕ) → rank g < top → kept' g ≡ kept g

zip_agree : (rank : ℕ → ℕ) (top : ℕ) (kept kept' : ℕ → Bool) (places : List (Option ℕ)) → Agree rank top kept kept' → (gs hs : List ℕ) → AllByRecursion (λ g. rank g < top) gs → AllZip (KeptAs kept places) gs hs → AllZip (KeptAs kept' places) gs hs
zip_agree rank top kept kept' places agree [] [] low zip = tt
zip_agree rank top kept kept' places agree [] (h ∷ hs) low zip = zip
zip_agree rank top kept kept' places agree (g ∷ gs) [] low zip = zip
zip_agree rank top kept kept' places agree (g ∷ gs) (h ∷ hs) low zip = ((agree g low.0 ∙ zip.0.0, zip.0.1), zip_agree rank top kept kept' places agree gs hs low.1 zip.1)

below_top : (rank : ℕ → ℕ) (here top : ℕ) → here ≤ top → (gs : List ℕ) → AllByRecursion (λ g. rank g < here) gs → AllByRecursion (λ g. rank g < top) gs
below_top rank here top l [] low = tt
below_top rank here top l (g ∷ gs) low = (omega (arith, low.0, l), below_top rank here top l gs low.1)

-- a goal matches alike where flags agree below its rank
pub matches_agree : (old new : Graph) (rank : ℕ → ℕ) (reaches : Reaches) → AreMoves new rank reaches → (form : Form) (places : List (Option ℕ)) (kept kept' : ℕ → Bool) (top g h : ℕ)
    → rank g ≤ top → Agree rank top kept kept' → Matches old new form places kept g h → Matches old new form places kept' g h
matches_agree old new rank reaches moves form places kept kept' top g h l agree is = record {
  at = is.at;
  unfolded = is.unfolded;
  there = is.there;
  count = is.count;
  forms = is.forms;
  inputs = λ k c. zip_agree rank top kept kept' places agree (new.alternative g k).inputs (old.alternative h k).inputs
      (below_top rank (rank g) top l (new.alternative g k).inputs (moves.ranked g k (is.unfolded.0, is.unfolded.1, c))) (is.inputs k c);
}

-- the first i pairs, and one more
zip_take : (R : ℕ → ℕ → Type 0) (gs hs : List ℕ) → length gs ≡ length hs → ((i g h : ℕ) → slice_get gs i ≡ Some g → slice_get hs i ≡ Some h → R g h) → AllZip R gs hs
zip_take R [] [] e all = tt
zip_take R [] (h ∷ hs) e all = absurd (omega (arith, e))
zip_take R (g ∷ gs) [] e all = absurd (omega (arith, e))
zip_take R (g ∷ gs) (h ∷ hs) e all = (all 0 g h refl refl, zip_take R gs hs (omega (arith, e)) (λ i. all (suc i)))

get_less : (xs : List ℕ) (i x : ℕ) → slice_get xs i ≡ Some x → i < length xs
get_less [] i x e = cc
get_less (y ∷ ys) zero x e = omega arith
get_less (y ∷ ys) (suc i) x e = omega (arith, get_less ys i x e)

pub zip_of : (R : ℕ → ℕ → Type 0) (gs hs : List ℕ) (n : ℕ) → n ≡ length gs → n ≡ length hs → ((i g h : ℕ) → i < n → slice_get gs i ≡ Some g → slice_get hs i ≡ Some h → R g h) → AllZip R gs hs
zip_of R gs hs n e f all = zip_take R gs hs (omega (arith, e, f)) (λ i g h at at'. all i g h (omega (arith, e, get_less gs i g at)) at at')

pub zip_at : (R : ℕ → ℕ → Type 0) (gs hs : List ℕ) (i g h : ℕ) → AllZip R gs hs → slice_get gs i ≡ Some g → slice_get hs i ≡ Some h → R g h
zip_at R [] hs i g h zip e f = cc
zip_at R (x ∷ xs) [] i g h zip e f = cc
zip_at R (x ∷ xs) (y ∷ ys) zero g h zip e f = let same : x ≡ g = cc in let also : y ≡ h = cc in subst (R g) also (subst (λ z. R z y) same zip.0)
zip_at R (x ∷ xs) (y ∷ ys) (suc i) g h zip e f = zip_at R xs ys i g h zip.1 e f

pub zip_length : (R : ℕ → ℕ → Type 0) (gs hs : List ℕ) → AllZip R gs hs → length gs ≡ length hs
zip_length R [] [] zip = refl
zip_length R [] (h ∷ hs) zip = absurd zip
zip_length R (g ∷ gs) [] zip = absurd zip
zip_length R (g ∷ gs) (h ∷ hs) zip = ap suc (zip_length R gs hs zip.1)

-- one more pair stands so
pub pairs_more : (R : ℕ → ℕ → Type 0) (gs hs : List ℕ) (n x y : ℕ) → slice_get gs n ≡ Some x → slice_get hs n ≡ Some y → R x y
    → ((i g h : ℕ) → i < n → slice_get gs i ≡ Some g → slice_get hs i ≡ Some h → R g h) → (i g h : ℕ) → i < n + 1 → slice_get gs i ≡ Some g → slice_get hs i ≡ Some h → R g h
pairs_more R gs hs n x y at at' r so_far i g h l e f = by_same (cases_eq i n) where
  by_same : (i ≡ n) ⊎ (i ≡ n → ⊥) → R g h
  by_same (inl s) = (let same : x ≡ g = some_is x g (sym at ∙ subst (λ j. slice_get gs j ≡ Some g) s e) in
      let also : y ≡ h = some_is y h (sym at' ∙ subst (λ j. slice_get hs j ≡ Some h) s f) in
      subst (R g) also (subst (λ z. R z y) same r)) where
        some_is : (a b : ℕ) → Some a ≡ Some b → a ≡ b
        some_is a b q = cc
  by_same (inr d) = so_far i g h (omega (arith, l, d)) e f
