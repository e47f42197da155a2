-- The expressions of classes, one expression more.
use Rattle.std.proofs.Common.{◌≡◌, inl, inr, ℕ, suc, ◌+◌, ◌<◌, ◌≤◌, Bool, true, false, ◌&&◌, List, [], ◌∷◌, ◌++◌, Option, Some, length, take, slice_get, nat_eq, eqb-true, eq-eqb, if◌then◌else◌, refl, ap, sym, ◌∙◌, subst, arith}
use Rattle.std.proofs.lemmas.List.{take_more, length-take-le}
use Rattle.std.proofs.lemmas.Option.{get_or_from_slice_get}
use Rattle.derivation.specs.declared.reason.Line.{Line}
use Rattle.derivation.specs.declared.terms.Term.{Term}
use Rattle.memo.specs.declared.expr.Expr.{Expr}
use Rattle.memo.specs.declared.expr.Known.{Known}
use Rattle.memo.specs.Adding.{AddsExpr}
use Rattle.memo.specs.Forest.{IsForest}
use Rattle.memo.specs.Members.{exprs_of, AreMembers, AreClasses, with_if, AreNone, IsPutAt, IsExtended}
use Rattle.memo.proofs.UnionLaws.{within}
use Rattle.memo.proofs.RebuildLaws.{below_or, front, last}

pub some_is : {A : Type 0} (a b : A) → Some a ≡ Some b → a ≡ b
some_is a b e = cc

zero_plus : (n : ℕ) → 0 + n ≡ n
zero_plus n = omega arith

next_plus : (k n : ℕ) → suc k + n ≡ k + suc n
next_plus k n = omega arith

plus_zero : (k : ℕ) → k ≡ k + 0
plus_zero k = omega arith

long_more : {A : Type 0} (xs : List A) (x : A) → length (xs ++ x ∷ []) ≡ length xs + 1
long_more [] x = refl
long_more (y ∷ xs) x = let h = long_more xs x in omega (arith, h)

not_same : (a b : ℕ) → (a ≡ b → ⊥) → nat_eq a b ≡ false
not_same a b other = by (nat_eq a b) refl
  where
    by : (r : Bool) → nat_eq a b ≡ r → nat_eq a b ≡ false
    by true is = absurd (other (eqb-true a b is))
    by false is = is

is_same : (a b : ℕ) → a ≡ b → nat_eq a b ≡ true
is_same a b e = eq-eqb a b e

true_false : true ≡ false → ⊥
true_false h = cc

first_more : (b : Bool) (k n : ℕ) → k ≡ n → (if b then k ∷ [] else []) ≡ with_if b n []
first_more true k n e = ap (λ m. m ∷ []) e
first_more false k n e = refl

later_more : (b d : Bool) (k m n : ℕ) (ns ms : List ℕ) → m ≡ n → ms ≡ with_if d m ns → (if b then k ∷ ms else ms) ≡ with_if d n (if b then k ∷ ns else ns)
later_more true true k m n ns ms e h = ap (λ w. k ∷ w) h ∙ ap (λ w. k ∷ (ns ++ w ∷ [])) e
later_more true false k m n ns ms e h = ap (λ w. k ∷ w) h
later_more false true k m n ns ms e h = h ∙ ap (λ w. ns ++ w ∷ []) e
later_more false false k m n ns ms e h = h

and_true : (b d : Bool) (n : ℕ) (ns : List ℕ) → d ≡ true → with_if b n ns ≡ with_if (b && d) n ns
and_true true d n ns e = ap (λ x. with_if x n ns) (sym e)
and_true false d n ns e = refl

and_false : (b d : Bool) (n : ℕ) (ns : List ℕ) → d ≡ false → with_if (b && d) n ns ≡ ns
and_false true d n ns e = ap (λ x. with_if x n ns) e
and_false false d n ns e = refl

skipped : (b d : Bool) (k : ℕ) (ns : List ℕ) → d ≡ false → (if b && d then k ∷ ns else ns) ≡ ns
skipped true d k ns e = ap (λ x. if x then k ∷ ns else ns) e
skipped false d k ns e = refl

take_next : {A : Type 0} (xs : List A) (i : ℕ) (x : A) → slice_get xs i ≡ Some x → take (i + 1) xs ≡ take i xs ++ x ∷ []
take_next xs i x at = take_more xs i x (within xs i x at) ∙ ap (λ y. take i xs ++ y ∷ []) (get_or_from_slice_get xs i x x at)

module _ {L : Type 0} where
  exprs_more : (c k : ℕ) (es : List (Expr L)) (e : Expr L) → exprs_of c k (es ++ e ∷ []) ≡ with_if (e.live && nat_eq e.class c) (k + length es) (exprs_of c k es)
  exprs_more c k [] e = first_more (e.live && nat_eq e.class c) k (k + 0) (plus_zero k)
  exprs_more c k (x ∷ es) e =
      later_more (x.live && nat_eq x.class c) (e.live && nat_eq e.class c) k (suc k + length es) (k + suc (length es)) (exprs_of c (suc k) es) (exprs_of c (suc k) (es ++ e ∷ [])) (next_plus k (length es)) (exprs_more c (suc k) es e)

  -- one expression more
  pub exprs_last : (c : ℕ) (es : List (Expr L)) (e : Expr L) → exprs_of c 0 (es ++ e ∷ []) ≡ with_if (e.live && nat_eq e.class c) (length es) (exprs_of c 0 es)
  exprs_last c es e = exprs_more c 0 es e ∙ ap (λ n. with_if (e.live && nat_eq e.class c) n (exprs_of c 0 es)) (zero_plus (length es))

  exprs_none : (c k : ℕ) (es : List (Expr L)) → ((i : ℕ) (e : Expr L) → slice_get es i ≡ Some e → e.class ≡ c → ⊥) → exprs_of c k es ≡ []
  exprs_none c k [] other = refl
  exprs_none c k (x ∷ es) other =
      skipped x.live (nat_eq x.class c) k (exprs_of c (suc k) es) (not_same x.class c (other 0 x refl)) ∙ exprs_none c (suc k) es (λ i e at. other (suc i) e at)

  pub none_first : (rows : List (List ℕ)) (n : ℕ) (es : List (Expr L)) → AreNone rows n → AreMembers rows n (take 0 es)
  none_first rows n [] h = h
  none_first rows n (e ∷ es) h = h

  put_more : (rows rows' : List (List ℕ)) (n i : ℕ) (es : List (Expr L)) (e : Expr L) → AreMembers rows n es → IsPutAt rows rows' e.class i e.live → i ≡ length es → AreMembers rows' n (es ++ e ∷ [])
  put_more rows rows' n i es e given put end = (put.long ∙ given.0, λ c low. by c low (nat_eq e.class c) refl)
    where
      by : (c : ℕ) → c < n → (b : Bool) → nat_eq e.class c ≡ b → slice_get rows' c ≡ Some (exprs_of c 0 (es ++ e ∷ []))
      by c low true is =
          let same : e.class ≡ c = eqb-true e.class c is in
          let ns = exprs_of c 0 es in
          let at : slice_get rows e.class ≡ Some ns = ap (λ d. slice_get rows d) same ∙ given.1 c low in
          let here : slice_get rows' c ≡ Some (with_if e.live i ns) = ap (λ d. slice_get rows' d) (sym same) ∙ put.here ns at in
          here ∙ ap Some (ap (λ m. with_if e.live m ns) end ∙ and_true e.live (nat_eq e.class c) (length es) ns is ∙ sym (exprs_last c es e))
      by c low false is =
          let ns = exprs_of c 0 es in
          put.rest c (λ same. true_false (sym (is_same e.class c same) ∙ is)) ∙ given.1 c low ∙ ap Some (sym (exprs_last c es e ∙ and_false e.live (nat_eq e.class c) (length es) ns is))

  -- one expression more is put into its class
  pub filled : (rows rows' : List (List ℕ)) (es : List (Expr L)) (i : ℕ) (e : Expr L) → slice_get es i ≡ Some e → AreMembers rows (length es) (take i es) → IsPutAt rows rows' e.class i e.live → AreMembers rows' (length es) (take (i + 1) es)
  filled rows rows' es i e at given put =
      let low : i ≤ length es = (let h = within es i e at in omega (arith, h)) in
      subst (λ fs. AreMembers rows' (length es) fs) (sym (take_next es i e at)) (put_more rows rows' (length es) i (take i es) e given put (sym (length-take-le i es low)))

  pub forest_classes : (terms : List (Term L)) (lines : List Line) (exprs : List (Expr L)) (known : List (Option Known)) → IsForest terms lines exprs known → AreClasses exprs
  forest_classes terms lines exprs known forest i e at = let low = forest.older i e at in let there = within exprs i e at in omega (arith, low, there)

  own_more : (rows : List (List ℕ)) (es : List (Expr L)) (e : Expr L) → AreClasses es → AreMembers rows (length es) es → e.class ≡ length es → e.live ≡ true → AreMembers (rows ++ (length es ∷ []) ∷ []) (length (es ++ e ∷ [])) (es ++ e ∷ [])
  own_more rows es e classes given own live =
      (long_more rows (length es ∷ []) ∙ ap (λ n. n + 1) given.0 ∙ sym (long_more es e), λ c low. elim (below_or c (length es) (subst (λ n. c < n) (long_more es e) low)) [ inl h ↦ old c h | inr h ↦ new c h ])
    where
      old : (c : ℕ) → c < length es → slice_get (rows ++ (length es ∷ []) ∷ []) c ≡ Some (exprs_of c 0 (es ++ e ∷ []))
      old c low =
          let other : e.class ≡ c → ⊥ = λ h. (let b : ⊥ = omega (arith, own, h, low) in b) in
          front rows ((length es ∷ []) ∷ []) c (exprs_of c 0 es) (given.1 c low) ∙ ap Some (sym (exprs_last c es e ∙ and_false e.live (nat_eq e.class c) (length es) (exprs_of c 0 es) (not_same e.class c other)))

      new : (c : ℕ) → c ≡ length es → slice_get (rows ++ (length es ∷ []) ∷ []) c ≡ Some (exprs_of c 0 (es ++ e ∷ []))
      new c end =
          let none : exprs_of c 0 es ≡ [] = exprs_none c 0 es (λ i x at h. (let low = classes i x at in let b : ⊥ = omega (arith, low, h, end) in b)) in
          let at : slice_get (rows ++ (length es ∷ []) ∷ []) c ≡ Some (length es ∷ []) = ap (λ n. slice_get (rows ++ (length es ∷ []) ∷ []) n) (end ∙ sym given.0) ∙ last rows (length es ∷ []) in
          let more : exprs_of c 0 (es ++ e ∷ []) ≡ length es ∷ [] = exprs_last c es e ∙ sym (and_true e.live (nat_eq e.class c) (length es) (exprs_of c 0 es) (is_same e.class c (own ∙ sym end))) ∙ ap (λ b. with_if b (length es) (exprs_of c 0 es)) live ∙ ap (λ ns. ns ++ length es ∷ []) none in
          at ∙ ap Some (sym more)

  -- a class that is new has its one expression
  pub extended : (rows rows' : List (List ℕ)) (es es' : List (Expr L)) (label : L) (classes : List ℕ) (line c : ℕ) → AreClasses es → AreMembers rows (length es) es → AddsExpr es es' label classes line c → IsExtended rows rows' (length es') → AreMembers rows' (length es') es'
  extended rows rows' es es' label classes line c low given (inl (is, rest)) (inl (short, same)) =
      let long : length es' ≡ length es = ap (λ (xs : List (Expr L)). length xs) is in
      let all = given.0 in
      let b : ⊥ = omega (arith, short, long, all) in absurd b
  extended rows rows' es es' label classes line c low given (inl (is, rest)) (inr (enough, same)) =
      subst (λ (xs : List (Expr L)). AreMembers rows' (length xs) xs) (sym is) (subst (λ rs. AreMembers rs (length es) es) (sym same) given)
  extended rows rows' es es' label classes line c low given (inr (end, (e, is, own, is_l, zip, is_line, live, none))) (inr (enough, same)) =
      let long : length es' ≡ length es + 1 = ap (λ (xs : List (Expr L)). length xs) is ∙ long_more es e in
      let all = given.0 in
      let b : ⊥ = omega (arith, enough, long, all) in absurd b
  extended rows rows' es es' label classes line c low given (inr (end, (e, is, own, is_l, zip, is_line, live, none))) (inl (short, same)) =
      let made = own_more rows es e low given own live in
      let at = same ∙ ap (λ n. rows ++ (n ∷ []) ∷ []) given.0 in
      subst (λ (xs : List (Expr L)). AreMembers rows' (length xs) xs) (sym is) (subst (λ rs. AreMembers rs (length (es ++ e ∷ [])) (es ++ e ∷ [])) (sym at) made)
