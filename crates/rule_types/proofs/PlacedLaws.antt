-- The declarations of a section, and one more behind them.
use Rattle.std.proofs.Common.{◌≡◌, ℕ, ◌+◌, ◌<◌, List, [], ◌∷◌, ◌++◌, length, take, get_or, map, ap, sym, ◌∙◌, append_assoc}
use Rattle.std.proofs.lemmas.List.{map-append, take_more}
use mathlib.Core.List.{append-nil}
use Rattle.rule_types.specs.Declarations.{Placed, placed, placed_behind}

abbrev at : {A : Type 0} → List A → A → Placed A
at before x = record { before = before; this = x }

placed_behind-append : {A : Type 0} (before xs : List A) (x : A) → placed_behind before (xs ++ x ∷ []) ≡ placed_behind before xs ++ at (before ++ xs) x ∷ []
placed_behind-append before [] x = ap (λ b. at b x ∷ []) (sym (append-nil before))
placed_behind-append before (y ∷ xs) x =
    ap (λ ps. at before y ∷ ps) (
    placed_behind-append (before ++ y ∷ []) xs x
    ∙ ap (λ b. placed_behind (before ++ y ∷ []) xs ++ at b x ∷ []) (append_assoc before (y ∷ []) xs)
    )

placed-more : {A D : Type 0} (made : Placed A → D) (xs : List A) (i : ℕ) (x : A) → i < length xs → x ≡ get_or xs i x
    → map made (placed (take (i + 1) xs)) ≡ map made (placed (take i xs)) ++ made (record { before = take i xs; this = x }) ∷ []
placed-more made xs i x within is =
    ap (λ ys. map made (placed ys)) (take_more xs i x within ∙ ap (λ y. take i xs ++ y ∷ []) (sym is))
    ∙ ap (map made) (placed_behind-append [] (take i xs) x)
    ∙ map-append made (placed (take i xs)) (at (take i xs) x ∷ [])

placed-seen : {A B D : Type 0} (seen : B → A) (made : Placed A → D) (xs : List B) (i : ℕ) (x : B) → i < length xs → x ≡ get_or xs i x
    → map made (placed (map seen (take (i + 1) xs))) ≡ map made (placed (map seen (take i xs))) ++ made (record { before = map seen (take i xs); this = seen x }) ∷ []
placed-seen seen made xs i x within is =
    ap (λ ys. map made (placed (map seen ys))) (take_more xs i x within ∙ ap (λ y. take i xs ++ y ∷ []) (sym is))
    ∙ ap (λ ys. map made (placed ys)) (map-append seen (take i xs) (x ∷ []))
    ∙ ap (map made) (placed_behind-append [] (map seen (take i xs)) (seen x))
    ∙ map-append made (placed (map seen (take i xs))) (at (map seen (take i xs)) (seen x) ∷ [])

-- one declaration more is pushed
pub pushed : {A D E : Type 0} (made : Placed A → D) (seen : E → D) (xs : List A) (i : ℕ) (x : A) (old : List D) (out new : List E) (e : E) → i < length xs → x ≡ get_or xs i x
    → map seen out ≡ old ++ map made (placed (take i xs)) → new ≡ out ++ e ∷ [] → seen e ≡ made (record { before = take i xs; this = x })
    → map seen new ≡ old ++ map made (placed (take (i + 1) xs))
pushed made seen xs i x old out new e within is so_far more here =
    ap (map seen) more
    ∙ (map-append seen out (e ∷ [])
    ∙ (ap (λ ds. ds ++ seen e ∷ []) so_far
    ∙ (append_assoc old (map made (placed (take i xs))) (seen e ∷ [])
    ∙ ap (λ ds. old ++ ds) (
    ap (λ d. map made (placed (take i xs)) ++ d ∷ []) here ∙ sym (placed-more made xs i x within is)
    ))))

-- and one that is seen as another
pub pushed-seen : {A B D E : Type 0} (f : B → A) (made : Placed A → D) (seen : E → D) (xs : List B) (i : ℕ) (x : B) (old : List D) (out new : List E) (e : E) → i < length xs → x ≡ get_or xs i x
    → map seen out ≡ old ++ map made (placed (map f (take i xs))) → new ≡ out ++ e ∷ [] → seen e ≡ made (record { before = map f (take i xs); this = f x })
    → map seen new ≡ old ++ map made (placed (map f (take (i + 1) xs)))
pushed-seen f made seen xs i x old out new e within is so_far more here =
    ap (map seen) more
    ∙ (map-append seen out (e ∷ [])
    ∙ (ap (λ ds. ds ++ seen e ∷ []) so_far
    ∙ (append_assoc old (map made (placed (map f (take i xs)))) (seen e ∷ [])
    ∙ ap (λ ds. old ++ ds) (
    ap (λ d. map made (placed (map f (take i xs))) ++ d ∷ []) here ∙ sym (placed-seen f made xs i x within is)
    ))))
