-- Folds over values, one value at a time.
use Rattle.std.proofs.Common.{◌≡◌, ℕ, zero, suc, ◌+◌, ◌-◌, ◌<◌, ◌≤◌, Bool, true, false, cond, List, [], ◌∷◌, ◌++◌, length, get_or, take, refl, ap, sym, ◌∙◌, add-one, arith}
use Rattle.std.specs.Prelude.{map, ◌&&◌, ◌||◌}
use Rattle.std.specs.List.{list_all, list_any}
use Rattle.std.specs.Cmp.Derive.{both_true}
use Rattle.std.proofs.lemmas.List.{take_more}
use Rattle.pr_value.specs.Capped.{capped_add, capped_mul}
use Rattle.pr_value.specs.Symbols.{Symbol}
use Rattle.pr_value.specs.SymbolSets.{ascends, set_of}
use Rattle.pr_value.specs.Values.{number_in, truth_in, symbol_in, members_in}
use Rattle.pr_value.specs.declared.value.Value.{Value}
use Rattle.pr_value.specs.declared.value.Value.TheVariants as value
use Rattle.pr_value.proofs.SortLaws.{set_of-ascending}
use Rattle.pr_value.proofs.SetLaws.{ascends-first, ascends-rest, ascends-skip}
use Rattle.rule_ast.specs.declared.expr.FoldKind.{FoldKind}
use Rattle.rule_ast.specs.declared.expr.FoldKind.TheVariants as folding
use Rattle.action_eval.specs.Builtins.{at, symbols_in, total, product, some_true, all_true, kept, collection, fold_value}
use Rattle.action_eval.specs.Folds.{total_of, product_of, kept_of, fold_of}

total-push : (vs : List Value) (v : Value) (n : ℕ) → total_of (vs ++ v ∷ []) n ≡ total_of vs (capped_add (number_in v) n)
total-push [] v n = refl
total-push (w ∷ vs) v n = ap (capped_add (number_in w)) (total-push vs v n)

product-push : (vs : List Value) (v : Value) (n : ℕ) → product_of (vs ++ v ∷ []) n ≡ product_of vs (capped_mul (number_in v) n)
product-push [] v n = refl
product-push (w ∷ vs) v n = ap (capped_mul (number_in w)) (product-push vs v n)

-- the last of the first n stands behind the others
pub one-fewer : {A : Type 0} (xs : List A) (n : ℕ) (x : A) → 0 < n → n ≤ length xs → x ≡ get_or xs (n - 1) x
    → take n xs ≡ take (n - 1) xs ++ x ∷ []
one-fewer xs n x some within is =
    ap (λ k. take k xs) (let e : n ≡ n - 1 + 1 = omega (arith, some) in e)
    ∙ take_more xs (n - 1) x (omega (arith, some, within)) ∙ ap (λ y. take (n - 1) xs ++ y ∷ []) (sym is)

-- the last of the values that are left goes into the sum
module _ (vs : List Value) (n : ℕ) (v w : Value) (number sum next made : ℕ) (some : 0 < n) (within : n ≤ length vs) (is : v ≡ get_or vs (n - 1) v) (held : w ≡ v) (as_number : number ≡ number_in w) where
  pub total-fewer : next ≡ capped_add number sum → total_of (take n vs) sum ≡ made → total_of (take (n - 1) vs) next ≡ made
  total-fewer added whole =
      ap (λ k. total_of (take (n - 1) vs) k) (added ∙ ap (λ k. capped_add k sum) (as_number ∙ ap number_in held)) ∙ sym (total-push (take (n - 1) vs) v sum)
      ∙ ap (λ us. total_of us sum) (sym (one-fewer vs n v some within is)) ∙ whole

  pub product-fewer : next ≡ capped_mul number sum → product_of (take n vs) sum ≡ made → product_of (take (n - 1) vs) next ≡ made
  product-fewer multiplied whole =
      ap (λ k. product_of (take (n - 1) vs) k) (multiplied ∙ ap (λ k. capped_mul k sum) (as_number ∙ ap number_in held)) ∙ sym (product-push (take (n - 1) vs) v sum)
      ∙ ap (λ us. product_of us sum) (sym (one-fewer vs n v some within is)) ∙ whole

pub symbols_in-push : (vs : List Value) (v : Value) → symbols_in (vs ++ v ∷ []) ≡ symbols_in vs ++ symbol_in v ∷ []
symbols_in-push [] v = refl
symbols_in-push (w ∷ vs) v = ap (λ ss. symbol_in w ∷ ss) (symbols_in-push vs v)

-- one member more
pub kept-more : (ms : List Symbol) (vs : List Value) (i : ℕ) (d : Symbol) → i < length ms
    → kept_of (take (suc i) ms) vs ≡ cond (truth_in (at vs i)) (kept_of (take i ms) vs ++ get_or ms i d ∷ []) (kept_of (take i ms) vs)
kept-more [] vs i d within = absurd (omega (arith, within))
kept-more (m ∷ ms) [] i d within = nothing i where
  nothing : (i : ℕ) → [] ≡ kept_of (take i (m ∷ ms)) []
  nothing zero = refl
  nothing (suc i) = refl
kept-more (m ∷ ms) (v ∷ vs) zero d within = refl
kept-more (m ∷ ms) (v ∷ vs) (suc i) d within =
    elim (truth_in v) as (λ b. cond b (m ∷ kept_of (take (suc i) ms) vs) (kept_of (take (suc i) ms) vs)
    ≡ cond (truth_in (at vs i)) (cond b (m ∷ kept_of (take i ms) vs) (kept_of (take i ms) vs) ++ get_or ms i d ∷ []) (cond b (m ∷ kept_of (take i ms) vs) (kept_of (take i ms) vs))) [
      | true ↦ ap (λ ss. m ∷ ss) (kept-more ms vs i d (omega (arith, within))) ∙ under (truth_in (at vs i)) m (kept_of (take i ms) vs) (get_or ms i d)
      | false ↦ kept-more ms vs i d (omega (arith, within))
    ] where
      under : (b : Bool) (m : Symbol) (ss : List Symbol) (s : Symbol) → m ∷ cond b (ss ++ s ∷ []) ss ≡ cond b (m ∷ ss ++ s ∷ []) (m ∷ ss)
      under true m ss s = refl
      under false m ss s = refl

-- ---- the folds of the language

total-map : (each : Symbol → Value) (ss : List Symbol) → total each ss ≡ total_of (map each ss) 0
total-map each [] = refl
total-map each (s ∷ ss) = ap (capped_add (number_in (each s))) (total-map each ss)

product-map : (each : Symbol → Value) (ss : List Symbol) → product each ss ≡ product_of (map each ss) 1
product-map each [] = refl
product-map each (s ∷ ss) = ap (capped_mul (number_in (each s))) (product-map each ss)

some-map : (each : Symbol → Value) (ss : List Symbol) → some_true each ss ≡ list_any truth_in (map each ss)
some-map each [] = refl
some-map each (s ∷ ss) = ap (λ b. truth_in (each s) || b) (some-map each ss)

all-map : (each : Symbol → Value) (ss : List Symbol) → all_true each ss ≡ list_all truth_in (map each ss)
all-map each [] = refl
all-map each (s ∷ ss) = ap (λ b. truth_in (each s) && b) (all-map each ss)

kept-map : (each : Symbol → Value) (ss : List Symbol) → kept each ss ≡ kept_of ss (map each ss)
kept-map each [] = refl
kept-map each (s ∷ ss) = ap (λ ts. cond (truth_in (each s)) (s ∷ ts) ts) (kept-map each ss)

-- what a fold gives, from the values at the members
pub fold_value-map : (k : FoldKind) (over : Value) (each : Symbol → Value) → fold_value k over each ≡ fold_of k over (map each (members_in over))
fold_value-map folding.Sum over each = ap value.Num (total-map each (members_in over))
fold_value-map folding.Product over each = ap value.Num (product-map each (members_in over))
fold_value-map folding.Any over each = ap value.Truth (some-map each (members_in over))
fold_value-map folding.All over each = ap value.Truth (all-map each (members_in over))
fold_value-map folding.Keep over each = ap (collection over) (kept-map each (members_in over))

-- ---- sets that keep some members

kept-below : (s : Symbol) (ss : List Symbol) (vs : List Value) → ascends (s ∷ ss) ≡ true → ascends (s ∷ kept_of ss vs) ≡ true
kept-below s [] vs up = refl
kept-below s (t ∷ ss) [] up = refl
kept-below s (t ∷ ss) (v ∷ vs) up =
    elim (truth_in v) as (λ b. ascends (s ∷ cond b (t ∷ kept_of ss vs) (kept_of ss vs)) ≡ true) [
      | true ↦ both_true (ascends-first s t ss up) (kept-below t ss vs (ascends-rest s (t ∷ ss) up))
      | false ↦ kept-below s ss vs (ascends-skip s t ss up)
    ]

ascends-kept : (ss : List Symbol) (vs : List Value) → ascends ss ≡ true → ascends (kept_of ss vs) ≡ true
ascends-kept [] vs up = refl
ascends-kept (s ∷ ss) [] up = refl
ascends-kept (s ∷ ss) (v ∷ vs) up =
    elim (truth_in v) as (λ b. ascends (cond b (s ∷ kept_of ss vs) (kept_of ss vs)) ≡ true) [
      | true ↦ kept-below s ss vs up
      | false ↦ ascends-kept ss vs (ascends-rest s ss up)
    ]

pub set_of-kept : (ss : List Symbol) (vs : List Value) → ascends ss ≡ true → set_of (kept_of ss vs) ≡ kept_of ss vs
set_of-kept ss vs up = set_of-ascending (kept_of ss vs) (ascends-kept ss vs up)

-- one value more
pub symbols-more : (vs : List Value) (i : ℕ) (v : Value) (s : Symbol) (old new : List Symbol) → i < length vs → v ≡ get_or vs i v → s ≡ symbol_in v → old ≡ symbols_in (take i vs) → new ≡ old ++ s ∷ [] → new ≡ symbols_in (take (i + 1) vs)
symbols-more vs i v s old new within here is so_far pushed =
    pushed ∙ ap (λ x. old ++ x ∷ []) (is ∙ ap symbol_in here) ∙ ap (λ ss. ss ++ symbol_in (get_or vs i v) ∷ []) so_far
    ∙ sym (symbols_in-push (take i vs) (get_or vs i v)) ∙ ap symbols_in (sym (take_more vs i v within))

pub kept-taken : (ms : List Symbol) (vs : List Value) (i : ℕ) (m : Symbol) (b : Bool) (s : Symbol) (old new : List Symbol) → i < length ms → m ≡ get_or ms i m → b ≡ truth_in (at vs i) → b ≡ true → s ≡ m → old ≡ kept_of (take i ms) vs
    → new ≡ old ++ s ∷ [] → new ≡ kept_of (take (i + 1) ms) vs
kept-taken ms vs i m b s old new within here is holds same so_far pushed =
    pushed ∙ ap (λ x. old ++ x ∷ []) (same ∙ here) ∙ ap (λ ss. ss ++ get_or ms i m ∷ []) so_far
    ∙ sym (ap (λ c. cond c (kept_of (take i ms) vs ++ get_or ms i m ∷ []) (kept_of (take i ms) vs)) (sym is ∙ holds))
    ∙ sym (kept-more ms vs i m within) ∙ ap (λ n. kept_of (take n ms) vs) (sym (add-one i))

pub kept-passed : (ms : List Symbol) (vs : List Value) (i : ℕ) (m : Symbol) (b : Bool) (old : List Symbol) → i < length ms → b ≡ truth_in (at vs i) → b ≡ false → old ≡ kept_of (take i ms) vs → old ≡ kept_of (take (i + 1) ms) vs
kept-passed ms vs i m b old within is fails so_far =
    so_far
    ∙ sym (ap (λ c. cond c (kept_of (take i ms) vs ++ get_or ms i m ∷ []) (kept_of (take i ms) vs)) (sym is ∙ fails))
    ∙ sym (kept-more ms vs i m within) ∙ ap (λ n. kept_of (take n ms) vs) (sym (add-one i))

-- the members of a set that are kept, as a set
pub keep-set : (over : Value) (vs : List Value) (set members kept made : List Symbol) → over ≡ value.Set set → members ≡ set → ascends set ≡ true → kept ≡ kept_of members vs → made ≡ set_of kept
    → value.Set made ≡ collection over (kept_of (members_in over) vs)
keep-set over vs set members kept made is same up k m =
    ap value.Set (m ∙ ap set_of (k ∙ ap (λ ss. kept_of ss vs) same) ∙ set_of-kept set vs up)
    ∙ ap (λ o. collection o (kept_of (members_in o) vs)) (sym is)
