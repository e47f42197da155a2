-- The value of digits, up to a cap.
use Rattle.std.proofs.Common.{◌≡◌, ℕ, ◌+◌, ◌*◌, ◌-◌, ◌<◌, ◌≤◌, min, Bool, true, List, [], ◌∷◌, length, drop, get_or, sym, ap, ◌∙◌, arith, ◌⊎◌, inl, inr}
use Rattle.std.specs.List.{list_all}
use Rattle.std.proofs.lemmas.Bool.{and_parts, cases_lt}
use Rattle.std.proofs.lemmas.List.{drop_more}
use Rattle.rule_lex.specs.Lexemes.{value_from}

value_from-ge : (n : ℕ) (bs : List ℕ) → n ≤ value_from n bs
value_from-ge n [] = omega arith
value_from-ge n (b ∷ bs) = omega (arith, value_from-ge (10 * n + (b - 48)) bs)

-- what is past the cap stays past it
value_from-min : (n k : ℕ) (bs : List ℕ) → min (value_from (min n k) bs) k ≡ min (value_from n bs) k
value_from-min n k bs = by_order (cases_lt n k) where
  by_order : (n < k) ⊎ (k ≤ n) → min (value_from (min n k) bs) k ≡ min (value_from n bs) k
  by_order (inl h) = let e : min n k ≡ n = omega (arith, h) in ap (λ (x : ℕ). min (value_from x bs) k) e
  by_order (inr h) =
      let e : min n k ≡ k = omega (arith, h) in
      ap (λ (x : ℕ). min (value_from x bs) k) e ∙ omega (arith, h, value_from-ge n bs, value_from-ge k bs)

-- one digit more
pub value_step : (ds : List ℕ) (i v w d k x : ℕ) → i < length ds → d ≡ get_or ds i 0 → w ≡ min (10 * v + (d - 48)) k → min (value_from v (drop i ds)) k ≡ x → min (value_from w (drop (i + 1) ds)) k ≡ x
value_step ds i v w d k x within read e h =
    ap (λ (n : ℕ). min (value_from n (drop (i + 1) ds)) k) e
    ∙ (value_from-min (10 * v + (d - 48)) k (drop (i + 1) ds)
    ∙ (ap (λ (n : ℕ). min (value_from (10 * v + (n - 48)) (drop (i + 1) ds)) k) read
    ∙ (ap (λ (bs : List ℕ). min (value_from v bs) k) (sym (drop_more ds i 0 within)) ∙ h)))

-- the digit here, and those behind it
pub digits_step : (test : ℕ → Bool) (ds : List ℕ) (i : ℕ) → i < length ds → list_all test (drop i ds) ≡ true → (test (get_or ds i 0) ≡ true) × (list_all test (drop (i + 1) ds) ≡ true)
digits_step test ds i within e = and_parts (test (get_or ds i 0)) _ (ap (list_all test) (sym (drop_more ds i 0 within)) ∙ e)
