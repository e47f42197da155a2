-- Lines between terms that are known in one class.
use Rattle.std.proofs.Common.{◌≡◌, ℕ, zero, suc, ◌+◌, ◌<◌, List, [], ◌∷◌, length, Option, Some, Result, Ok, Err, slice_get, slice_set, slice_index_or, refl, ap, sym, ◌∙◌, subst, arith}
use Rattle.std.specs.Prelude.{IfOk}
use Rattle.std.specs.List.{AllZip}
use Rattle.derivation.specs.Log.{LogValue}
use Rattle.derivation.specs.declared.terms.Term.{Term}
use Rattle.derivation.proofs.StandsLaws.{keeps_of_take}
use Rattle.memo.specs.declared.expr.Expr.{Expr}
use Rattle.memo.specs.declared.expr.Known.{Known}
use Rattle.derivation.specs.Table.{AreDistinct, term}
use Rattle.memo.specs.Forest.{HasLine, EndsAt, LeadsHome}
use Rattle.memo.specs.Grew.{Grew, Chains, Turns, Insides, Stills}
use Rattle.memo.specs.Reach.{AreNear, AreAlike, Swaps, Leads, mixed}
use Rattle.memo.proofs.GrewLaws.{line_still, grew_trans}

some_is : {A : Type 0} (a b : A) → Some a ≡ Some b → a ≡ b
some_is a b e = cc

across_made : {L S : Type 0} (one two three new : LogValue L S) (exprs : List (Expr L)) (known : List (Option Known)) (m n down up back i : ℕ) → AreNear exprs known m n → Grew one two → Grew two three → LeadsHome one.lines exprs known m down
    → LeadsHome two.lines exprs known n up → Turns two three up back → Chains three new down back i → HasLine new.lines i m n
across_made {L} one two three new exprs known m n down up back i (c, (k, at_k, (a, b, at_a, at_b, ab)), (k', at_k', (a', b', at_a', at_b', ab'))) g h (l, e, r, at_l, at_e, at_r, has) (l', e', r', at_l', at_e', at_r', has') turns chains =
    let same_k : l ≡ k = some_is l k (some_is (Some l) (Some k) (sym at_l ∙ at_k)) in
    let same_k' : l' ≡ k' = some_is l' k' (some_is (Some l') (Some k') (sym at_l' ∙ at_k')) in
    let same_e : e ≡ a = some_is e a (sym at_e ∙ ap (λ (x : Known). slice_get exprs x.expr) same_k ∙ at_a) in
    let same_e' : e' ≡ a' = some_is e' a' (sym at_e' ∙ ap (λ (x : Known). slice_get exprs x.expr) same_k' ∙ at_a') in
    let same_b : b ≡ b' = some_is b b' (sym at_b ∙ at_b') in
    let classes : e.class ≡ e'.class = ap (λ (x : Expr L). x.class) same_e ∙ ab ∙ ap (λ (x : Expr L). x.class) same_b ∙ sym ab' ∙ ap (λ (x : Expr L). x.class) (sym same_e') in
    let roots : r' ≡ r = some_is r' r (sym at_r' ∙ ap (λ x. slice_get exprs x) (sym classes) ∙ at_r) in
    let to_r : HasLine three.lines down m r.tree = line_still one three down m r.tree (grew_trans one two three g h) has in
    let from_r : HasLine three.lines back r'.tree n = turns n r'.tree has' in
    chains m r.tree n to_r (subst (λ (x : Expr L). HasLine three.lines back x.tree n) roots from_r)

pub across_ok : {L S E : Type 0} (one two three new : LogValue L S) (exprs : List (Expr L)) (known : List (Option Known)) (m n down up back : ℕ) (res : Result ℕ E) → AreNear exprs known m n → Grew one two → Grew two three → LeadsHome one.lines exprs known m down
    → LeadsHome two.lines exprs known n up → Turns two three up back → IfOk res (Chains three new down back) → IfOk res (λ i. HasLine new.lines i m n)
across_ok one two three new exprs known m n down up back (Ok i) near g h a b turns chains = across_made one two three new exprs known m n down up back i near g h a b turns chains
across_ok one two three new exprs known m n down up back (Err e) near g h a b turns chains = tt

swap_made : {L S : Type 0} (old mid new : LogValue L S) (path at by step i from to : ℕ) → Grew old mid → Grew mid new → Insides old mid path at by step → Chains mid new path step i → HasLine old.lines by from to → Swaps old new path at from to i
swap_made {L} old mid new path at by step i from to g h insides chains has s n on in_n =
    let (u, line, (t, at_t, at_u)) = insides s n from to on in_n has in
    let keeps = keeps_of_take mid.terms new.terms h.terms in
    (u, chains s n u (line_still old mid path s n g on) line, (t, keeps n t at_t, keeps u _ at_u))

pub swap_ok : {L S E : Type 0} (old mid new : LogValue L S) (path at by step : ℕ) (res : Result ℕ E) → Grew old mid → Grew mid new → Insides old mid path at by step → IfOk res (Chains mid new path step)
    → IfOk res (λ i. (from to : ℕ) → HasLine old.lines by from to → Swaps old new path at from to i)
swap_ok old mid new path at by step (Ok i) g h insides chains = λ from to has. swap_made old mid new path at by step i from to g h insides chains has
swap_ok old mid new path at by step (Err e) g h insides chains = tt

-- an input is replaced by itself
pub swap_none : {L S : Type 0} (log : LogValue L S) (path at x y : ℕ) → x ≡ y → Swaps log log path at x y path
swap_none {L} log path at x y same s n on (t, at_t, at_x) =
    let set : slice_set t.inputs at y ≡ t.inputs = ap (λ z. slice_set t.inputs at z) (sym same) ∙ set_own t.inputs at x at_x in
    (n, on, (t, at_t, at_t ∙ ap (λ (ns : List ℕ). Some (term t.label ns)) (sym set)))
  where
    set_own : (xs : List ℕ) (i x : ℕ) → slice_get xs i ≡ Some x → slice_set xs i x ≡ xs
    set_own [] i x e = refl
    set_own (z ∷ xs) zero x e = let same : z ≡ x = some_is z x e in ap (λ w. w ∷ xs) (sym same)
    set_own (z ∷ xs) (suc i) x e = ap (λ w. z ∷ w) (set_own xs i x e)

pub near_at : (R : ℕ → ℕ → Type 0) (xs ys : List ℕ) (i d : ℕ) → AllZip R xs ys → i < length xs → R (slice_index_or xs i d) (slice_index_or ys i d)
near_at R [] ys i d all h = let e : ⊥ = omega (arith, h) in absurd e
near_at R (x ∷ xs) [] i d all h = absurd all
near_at R (x ∷ xs) (y ∷ ys) zero d all h = all.0
near_at R (x ∷ xs) (y ∷ ys) (suc i) d all h = near_at R xs ys i d all.1 (omega (arith, h))

pub same_length : (R : ℕ → ℕ → Type 0) (xs ys : List ℕ) → AllZip R xs ys → length xs ≡ length ys
same_length R [] [] all = refl
same_length R [] (y ∷ ys) all = absurd all
same_length R (x ∷ xs) [] all = absurd all
same_length R (x ∷ xs) (y ∷ ys) all = ap suc (same_length R xs ys all.1)

mixed_at : (i : ℕ) (to from : List ℕ) (d : ℕ) → i < length from → i < length to → slice_get (mixed i to from) i ≡ Some (slice_index_or from i d)
mixed_at i to [] d h k = let e : ⊥ = omega (arith, h) in absurd e
mixed_at i [] (x ∷ from) d h k = let e : ⊥ = omega (arith, k) in absurd e
mixed_at zero (y ∷ to) (x ∷ from) d h k = refl
mixed_at (suc i) (y ∷ to) (x ∷ from) d h k = mixed_at i to from d (omega (arith, h)) (omega (arith, k))

mixed_next : (i : ℕ) (to from : List ℕ) (d : ℕ) → i < length from → i < length to → slice_set (mixed i to from) i (slice_index_or to i d) ≡ mixed (suc i) to from
mixed_next i to [] d h k = let e : ⊥ = omega (arith, h) in absurd e
mixed_next i [] (x ∷ from) d h k = let e : ⊥ = omega (arith, k) in absurd e
mixed_next zero (y ∷ to) (x ∷ from) d h k = refl
mixed_next (suc i) (y ∷ to) (x ∷ from) d h k = ap (λ r. y ∷ r) (mixed_next i to from d (omega (arith, h)) (omega (arith, k)))

mixed_all : (to from : List ℕ) → length from ≡ length to → mixed (length from) to from ≡ to
mixed_all [] [] e = refl
mixed_all (y ∷ to) [] e = let n : ⊥ = omega (arith, e) in absurd n
mixed_all [] (x ∷ from) e = let n : ⊥ = omega (arith, e) in absurd n
mixed_all (y ∷ to) (x ∷ from) e = ap (λ r. y ∷ r) (mixed_all to from (omega (arith, e)))

pub leads_none : {L S : Type 0} (log : LogValue L S) (first : ℕ) (from : List ℕ) → Leads log log first from from first
leads_none log first from s u label on at = (u, on, at)

module _ {L S : Type 0} (old mid new : LogValue L S) (first : ℕ) (from to : List ℕ) where
  pub leads_more : (i d path next : ℕ) → i < length from → i < length to → Grew mid new → Leads old mid first from (mixed i to from) path → Swaps mid new path i (slice_index_or from i d) (slice_index_or to i d) next
      → Leads old new first from (mixed (i + 1) to from) next
  leads_more i d path next h k g leads swaps s u label on at =
      let (w, on_w, at_w) = leads s u label on at in
      let (v, on_v, (t, at_t, at_v)) = swaps s w on_w (term label (mixed i to from), at_w, mixed_at i to from d h k) in
      let same : t ≡ term label (mixed i to from) = some_is t (term label (mixed i to from)) (sym at_t ∙ keeps_of_take mid.terms new.terms g.terms w (term label (mixed i to from)) at_w) in
      let one : suc i ≡ i + 1 = omega arith in
      (v, on_v, at_v ∙ ap (λ (x : Term L). Some (term x.label (slice_set x.inputs i (slice_index_or to i d)))) same ∙ ap (λ ns. Some (term label ns)) (mixed_next i to from d h k ∙ ap (λ n. mixed n to from) one))

pub leads_all : {L S : Type 0} (old new : LogValue L S) (first path at : ℕ) (from to : List ℕ) → at ≡ length from → length from ≡ length to → Leads old new first from (mixed at to from) path → Leads old new first from to path
leads_all old new first path at from to end e leads = subst (λ ns. Leads old new first from ns path) (ap (λ n. mixed n to from) end ∙ mixed_all to from e) leads

-- two terms that are alike, with a line from the one to the label over the other's inputs
pub reached : {L S : Type 0} (old mid new : LogValue L S) (exprs : List (Expr L)) (known : List (Option Known)) (line first path s t : ℕ) (from to : List ℕ) → AreDistinct new.terms → Grew old mid → Grew mid new → EndsAt old.lines line s → AreAlike old.terms exprs known s t
    → ((a : Term L) × (slice_get old.terms s ≡ Some a) × (from ≡ a.inputs)) → ((b : Term L) × (slice_get old.terms t ≡ Some b) × (to ≡ b.inputs)) → Stills old mid line first → Leads mid new first from to path → HasLine new.lines path s t
reached {L} old mid new exprs known line first path s t from to distinct g h ends (a, b, at_a, at_b, label, all) (a', at_a', is_from) (b', at_b', is_to) stills leads =
    let same_a : a' ≡ a = some_is a' a (sym at_a' ∙ at_a) in
    let same_b : b' ≡ b = some_is b' b (sym at_b' ∙ at_b) in
    let at_s : slice_get mid.terms s ≡ Some (term a.label from) = keeps_of_take old.terms mid.terms g.terms s a at_a ∙ ap (λ (ns : List ℕ). Some (term a.label ns)) (ap (λ (x : Term L). x.inputs) (sym same_a) ∙ sym is_from) in
    let (w, on_w, at_w) = leads s s a.label (stills s ends) at_s in
    let at_t : slice_get new.terms t ≡ Some (term a.label to) =
    keeps_of_take mid.terms new.terms h.terms t b (keeps_of_take old.terms mid.terms g.terms t b at_b) ∙ ap (λ (l : L). Some (term l b.inputs)) (sym label) ∙ ap (λ (ns : List ℕ). Some (term a.label ns)) (ap (λ (x : Term L). x.inputs) (sym same_b) ∙ sym is_to) in
    let same : w ≡ t = distinct w t (term a.label to) at_w at_t in
    subst (λ n. HasLine new.lines path s n) same on_w

pub alike_long : {L : Type 0} (terms : List (Term L)) (exprs : List (Expr L)) (known : List (Option Known)) (s t : ℕ) (from to : List ℕ) → AreAlike terms exprs known s t → ((a : Term L) × (slice_get terms s ≡ Some a) × (from ≡ a.inputs)) → ((b : Term L) × (slice_get terms t ≡ Some b) × (to ≡ b.inputs))
    → AllZip (AreNear exprs known) from to
alike_long {L} terms exprs known s t from to (a, b, at_a, at_b, label, all) (a', at_a', is_from) (b', at_b', is_to) =
    let from_is : a.inputs ≡ from = ap (λ (x : Term L). x.inputs) (some_is a a' (sym at_a ∙ at_a')) ∙ sym is_from in
    let to_is : b.inputs ≡ to = ap (λ (x : Term L). x.inputs) (some_is b b' (sym at_b ∙ at_b')) ∙ sym is_to in
    subst (λ ns. AllZip (AreNear exprs known) ns to) from_is (subst (λ ns. AllZip (AreNear exprs known) a.inputs ns) to_is all)

swap_before : {L S : Type 0} (old mid new : LogValue L S) (path at x y i : ℕ) → Grew old mid → Swaps mid new path at x y i → Swaps old new path at x y i
swap_before old mid new path at x y i g swaps s n on (t, at_t, at_x) = swaps s n (line_still old mid path s n g on) (t, keeps_of_take old.terms mid.terms g.terms n t at_t, at_x)

pub swap_near_ok : {L S E : Type 0} (old mid new : LogValue L S) (path at x y by : ℕ) (res : Result ℕ E) → Grew old mid → HasLine mid.lines by x y
    → IfOk res (λ i. (from to : ℕ) → HasLine mid.lines by from to → Swaps mid new path at from to i) → IfOk res (Swaps old new path at x y)
swap_near_ok old mid new path at x y by (Ok i) g has swaps = swap_before old mid new path at x y i g (swaps x y has)
swap_near_ok old mid new path at x y by (Err e) g has swaps = tt
