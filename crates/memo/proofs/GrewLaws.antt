-- One line more.
use Rattle.std.proofs.Common.{◌≡◌, ℕ, zero, suc, ◌≤◌, max, List, [], ◌∷◌, ◌++◌, length, take, Some, Result, Ok, Err, slice_get, refl, ap, sym, ◌∙◌, subst, arith, inl, inr}
use Rattle.std.specs.Prelude.{◌⊎◌, Option, IfOk, OnErr}
use Rattle.pr_value.specs.Trees.{Tree}
use Rattle.derivation.specs.Log.{LogValue, Pushes}
use Rattle.derivation.specs.Made.{PartOf}
use Rattle.derivation.specs.declared.reason.Line.{Line}
use Rattle.derivation.specs.declared.reason.Reason.{Reason}
use Rattle.derivation.specs.declared.reason.Reason.TheVariants.{Turn, Chain, Inside}
use Rattle.derivation.specs.declared.terms.Term.{Term}
use Rattle.derivation.proofs.TableLaws.{at_end}
use Rattle.derivation.proofs.StandsLaws.{keeps_of_take}
use Rattle.memo.specs.Forest.{HasLine}
use Rattle.memo.specs.Grew.{AreNoDeeper, Grew, Chains, Turns, Insides, Stills}

some_is : {A : Type 0} (a b : A) → Some a ≡ Some b → a ≡ b
some_is a b e = cc

take_all : {A : Type 0} (xs : List A) → take (length xs) xs ≡ xs
take_all [] = refl
take_all (x ∷ xs) = ap (λ r. x ∷ r) (take_all xs)

take_front : {A : Type 0} (xs ys : List A) → take (length xs) (xs ++ ys) ≡ xs
take_front [] ys = refl
take_front (x ∷ xs) ys = ap (λ r. x ∷ r) (take_front xs ys)

last_at : {A : Type 0} (xs : List A) (y : A) → slice_get (xs ++ y ∷ []) (length xs) ≡ Some y
last_at [] y = refl
last_at (x ∷ xs) y = last_at xs y

pub le_refl : (n : ℕ) → n ≤ n
le_refl n = omega arith

-- one line more, no deeper than one before
pub deeper_more : (old : List Line) (l : Line) → ((j : ℕ) × (m : Line) × (slice_get old j ≡ Some m) × (l.depth ≤ m.depth)) → AreNoDeeper old (old ++ l ∷ [])
deeper_more old l (j, m, at, le) i k e = elim (at_end old l i k e) [ inl h ↦ (i, k, h, le_refl k.depth) | inr h ↦ (j, m, at, subst (λ (x : Line). x.depth ≤ m.depth) h.0 le) ]

deepest : (old : List Line) (i j : ℕ) (p r : Line) (d : ℕ) → slice_get old i ≡ Some p → slice_get old j ≡ Some r → d ≡ max p.depth r.depth → (k : ℕ) × (m : Line) × (slice_get old k ≡ Some m) × (d ≤ m.depth)
deepest old i j p r d at_p at_r is = by (le_or p.depth r.depth)
  where
    le_or : (a b : ℕ) → (a ≤ b) ⊎ (b ≤ a)
    le_or zero b = inl (omega arith)
    le_or (suc a) zero = inr (omega arith)
    le_or (suc a) (suc b) = elim (le_or a b) [ inl h ↦ inl (omega (arith, h)) | inr h ↦ inr (omega (arith, h)) ]

    by : (p.depth ≤ r.depth) ⊎ (r.depth ≤ p.depth) → (k : ℕ) × (m : Line) × (slice_get old k ≡ Some m) × (d ≤ m.depth)
    by (inl h) = (j, r, at_r, omega (arith, h, is))
    by (inr h) = (i, p, at_p, omega (arith, h, is))

pub has_line : (old new : List Line) (l : Line) (m n : ℕ) → new ≡ old ++ l ∷ [] → l.left ≡ m → l.right ≡ n → HasLine new (length old) m n
has_line old new l m n is left right = (l, ap (λ w. slice_get w (length old)) is ∙ last_at old l, left, right)

module _ {L : Type 0} (step : ℕ → Tree L → Option (Tree L)) (terms : List (Term L)) (query : ℕ) (old new : List Line) where
  pub chain_made : (first second : ℕ) → Pushes step terms query old new (Chain first second) → AreNoDeeper old new × ((m k n : ℕ) → HasLine old first m k → HasLine old second k n → HasLine new (length old) m n)
  chain_made first second (l, is, why, (p, r, at_p, at_r, meet, left, right, deep)) = (
    subst (λ w. AreNoDeeper old w) (sym is) (deeper_more old l (deepest old first second p r l.depth at_p at_r deep)),
    λ m k n (a, at_a, left_a, right_a) (b, at_b, left_b, right_b).
        has_line old new l m n is (left ∙ ap (λ (x : Line). x.left) (some_is p a (sym at_p ∙ at_a)) ∙ left_a) (right ∙ ap (λ (x : Line). x.right) (some_is r b (sym at_r ∙ at_b)) ∙ right_b),
  )

  pub turn_made : (of : ℕ) → Pushes step terms query old new (Turn of) → AreNoDeeper old new × ((m n : ℕ) → HasLine old of m n → HasLine new (length old) n m)
  turn_made of (l, is, why, (p, at_p, left, right, deep)) = (
    subst (λ w. AreNoDeeper old w) (sym is) (deeper_more old l (of, p, at_p, subst (λ d. l.depth ≤ d) deep (le_refl l.depth))),
    λ m n (a, at_a, left_a, right_a).
        has_line old new l n m is (left ∙ ap (λ (x : Line). x.right) (some_is p a (sym at_p ∙ at_a)) ∙ right_a) (right ∙ ap (λ (x : Line). x.left) (some_is p a (sym at_p ∙ at_a)) ∙ left_a),
  )

  pub inside_made : (of at by : ℕ) → Pushes step terms query old new (Inside of at by) → AreNoDeeper old new × ((m n k v : ℕ) → HasLine old of m n → HasLine old by k v → (u : ℕ) × HasLine new (length old) n u × PartOf terms n at v u)
  inside_made of at by (l, is, why, (p, r, at_p, at_r, in_r, left, part, deep)) = (
    subst (λ w. AreNoDeeper old w) (sym is) (deeper_more old l (deepest old of by p r l.depth at_p at_r deep)),
    λ m n k v (a, at_a, left_a, right_a) (b, at_b, left_b, right_b).
        let right_p : p.right ≡ n = ap (λ (x : Line). x.right) (some_is p a (sym at_p ∙ at_a)) ∙ right_a in
        let right_r : r.right ≡ v = ap (λ (x : Line). x.right) (some_is r b (sym at_r ∙ at_b)) ∙ right_b in
        (l.right, has_line old new l n l.right is (left ∙ right_p) refl, subst (λ x. PartOf terms n at x l.right) right_r (subst (λ x. PartOf terms x at r.right l.right) right_p part)),
  )

module _ {L S : Type 0} (step : ℕ → Tree L → Option (Tree L)) (old new : LogValue L S) (same : (new.steps ≡ old.steps) × (new.query ≡ old.query)) (kept : take (length old.terms) new.terms ≡ old.terms) where
  pub grew_by : (l : Line) → new.lines ≡ old.lines ++ l ∷ [] → AreNoDeeper old.lines new.lines → Grew old new
  grew_by l is deep = record {
    steps = same.0;
    query = same.1;
    terms = kept;
    lines = ap (λ w. take (length old.lines) w) is ∙ take_front old.lines (l ∷ []);
    shallow = deep;
  }

  pub grew_none : new.lines ≡ old.lines → Grew old new
  grew_none is = record {
    steps = same.0;
    query = same.1;
    terms = kept;
    lines = ap (λ w. take (length old.lines) w) is ∙ take_all old.lines;
    shallow = λ i l e. (i, l, ap (λ w. slice_get w i) (sym is) ∙ e, le_refl l.depth);
  }

  at_number : (i m n : ℕ) → i ≡ length old.lines → HasLine new.lines (length old.lines) m n → HasLine new.lines i m n
  at_number i m n is h = subst (λ x. HasLine new.lines x m n) (sym is) h

  pub chain_grew : (first second i : ℕ) → (i ≡ length old.lines) × Pushes step new.terms old.query old.lines new.lines (Chain first second) → Grew old new × Chains old new first second i
  chain_grew first second i (is, p) =
      let made = chain_made step new.terms old.query old.lines new.lines first second p in
      (grew_by p.0 p.1 made.0, λ m k n h h'. at_number i m n is (made.1 m k n h h'))

  pub turn_grew : (of i : ℕ) → (i ≡ length old.lines) × Pushes step new.terms old.query old.lines new.lines (Turn of) → Grew old new × Turns old new of i
  turn_grew of i (is, p) =
      let made = turn_made step new.terms old.query old.lines new.lines of p in
      (grew_by p.0 p.1 made.0, λ m n h. at_number i n m is (made.1 m n h))

  pub inside_grew : (of at by i : ℕ) → (i ≡ length old.lines) × Pushes step new.terms old.query old.lines new.lines (Inside of at by) → Grew old new × Insides old new of at by i
  inside_grew of at by i (is, p) =
      let made = inside_made step new.terms old.query old.lines new.lines of at by p in
      (grew_by p.0 p.1 made.0, λ m n k v h in_k h'. let (u, line, part) = made.1 m n k v h h' in (u, at_number i n u is line, part))

pub line_still : {L S : Type 0} (old new : LogValue L S) (i m n : ℕ) → Grew old new → HasLine old.lines i m n → HasLine new.lines i m n
line_still old new i m n grew (l, at, left, right) = (l, keeps_of_take old.lines new.lines grew.lines i l at, left, right)

-- a turn and a chain with it
pub still_made : {L S : Type 0} (old mid new : LogValue L S) (of turned i : ℕ) → Grew old mid → Turns old mid of turned → Chains mid new turned of i → Stills old new of i
still_made old mid new of turned i grew turns chains n (l, at, right) =
    let there : HasLine old.lines of l.left n = (l, at, refl, right) in
    chains n l.left n (turns l.left n there) (line_still old mid of l.left n grew there)

pub grew_trans : {L S : Type 0} (old mid new : LogValue L S) → Grew old mid → Grew mid new → Grew old new
grew_trans old mid new a b = record {
  steps = b.steps ∙ a.steps;
  query = b.query ∙ a.query;
  terms = take_trans old.terms mid.terms new.terms a.terms b.terms;
  lines = take_trans old.lines mid.lines new.lines a.lines b.lines;
  shallow = λ i l e. let (j, m, at, le) = b.shallow i l e in let (k, o, at', le') = a.shallow j m at in (k, o, at', omega (arith, le, le'));
}
  where
    take_trans : {A : Type 0} (xs ys zs : List A) → take (length xs) ys ≡ xs → take (length ys) zs ≡ ys → take (length xs) zs ≡ xs
    take_trans [] ys zs e f = refl
    take_trans (x ∷ xs) [] zs e f = cc
    take_trans (x ∷ xs) (y ∷ ys) [] e f = cc
    take_trans (x ∷ xs) (y ∷ ys) (z ∷ zs) e f =
        let e' : take (length xs) ys ≡ xs = cc in let f' : take (length ys) zs ≡ ys = cc in let heads : z ≡ x = cc in (λ i. heads i ∷ take_trans xs ys zs e' f' i)

pub still_ok : {L S E : Type 0} (old mid new : LogValue L S) (of turned : ℕ) (r : Result ℕ E) → Grew old mid → Turns old mid of turned → IfOk r (Chains mid new turned of) → IfOk r (Stills old new of)
still_ok old mid new of turned (Ok i) grew turns chains = still_made old mid new of turned i grew turns chains
still_ok old mid new of turned (Err e) grew turns chains = tt

-- what a push leaves of the lines
pub push_kept : {L E : Type 0} (step : ℕ → Tree L → Option (Tree L)) (terms : List (Term L)) (query : ℕ) (old new : List Line) (why : Reason) (r : Result ℕ E) → IfOk r (λ i. (i ≡ length old) × Pushes step terms query old new why) → OnErr r (new ≡ old) → take (length old) new ≡ old
push_kept step terms query old new why (Ok i) ok err = ap (λ w. take (length old) w) ok.1.1 ∙ take_front old (ok.1.0 ∷ [])
push_kept step terms query old new why (Err e) ok err = ap (λ w. take (length old) w) err ∙ take_all old

pub grew_same : {L S : Type 0} (log : LogValue L S) → Grew log log
grew_same log = record {
  steps = refl;
  query = refl;
  terms = take_all log.terms;
  lines = take_all log.lines;
  shallow = λ i l e. (i, l, e, le_refl l.depth);
}
