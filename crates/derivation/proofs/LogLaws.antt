-- One more line of a log.
use Rattle.std.proofs.Common.{◌≡◌, ℕ, zero, suc, ◌<◌, ◌≤◌, max, List, [], ◌∷◌, ◌++◌, length, take, Option, Some, slice_get, refl, ap, sym, ◌∙◌, subst, arith, inl, inr}
use Rattle.std.specs.Prelude.{All}
use Rattle.std.specs.List.{AllZip}
use Rattle.pr_value.specs.Trees.{Tree, node, with_input}
use Rattle.derivation.specs.declared.reason.Reason.{Reason}
use Rattle.derivation.specs.declared.reason.Reason.TheVariants.{Query, Part, Rule, Turn, Chain, Inside}
use Rattle.derivation.specs.declared.reason.Line.{Line}
use Rattle.derivation.specs.declared.terms.Term.{Term}
use Rattle.derivation.specs.Lines.{Equation, equation}
use Rattle.derivation.specs.Terms.{Justifies, AreJustifiedAfter, equations_of}
use Rattle.derivation.specs.Stands.{Stands}
use Rattle.derivation.specs.Made.{Made}
use Rattle.derivation.specs.Log.{Shows, AreShallow, AreThere, AreBackward, IsLog}
use Rattle.derivation.specs.Slices.{rests_on}
use Rattle.derivation.proofs.TableLaws.{at_end}
use Rattle.derivation.proofs.StandsLaws.{one_tree, keeps_of_take, stands_still, input_stands, part_stands}

-- the equation of a line
pub shown : {L : Type 0} (ts : List (Term L)) (ls : List Line) (es : List (Reason × Equation L)) (i : ℕ) (l : Line) → AllZip (Shows ts) ls es → slice_get ls i ≡ Some l
    → (e : Reason × Equation L) × (slice_get es i ≡ Some e) × Shows ts l e
shown ts [] es i l all h = cc
shown ts (m ∷ ls) [] i l all h = absurd all
shown {L} ts (m ∷ ls) (e ∷ es) zero l all h = (e, refl, subst (λ k. Shows ts k e) (some_is m l h) all.0)
  where
    some_is : {A : Type 0} (a b : A) → Some a ≡ Some b → a ≡ b
    some_is a b e = cc
shown ts (m ∷ ls) (e ∷ es) (suc i) l all h = shown ts ls es i l all.1 h

pub equation_at : {L : Type 0} (ps : List (Reason × Equation L)) (i : ℕ) (p : Reason × Equation L) → slice_get ps i ≡ Some p → slice_get (equations_of ps) i ≡ Some p.1
equation_at [] i p h = cc
equation_at {L} (q ∷ ps) zero p h = ap Some (ap (λ (x : Reason × Equation L). x.1) (some_is q p h))
  where
    some_is : {A : Type 0} (a b : A) → Some a ≡ Some b → a ≡ b
    some_is a b e = cc
equation_at (q ∷ ps) (suc i) p h = equation_at ps i p h

append_nil : {A : Type 0} (xs : List A) → xs ++ [] ≡ xs
append_nil [] = refl
append_nil (x ∷ xs) = ap (λ r. x ∷ r) (append_nil xs)

append_one : {A : Type 0} (xs : List A) (y : A) (ys : List A) → (xs ++ y ∷ []) ++ ys ≡ xs ++ y ∷ ys
append_one [] y ys = refl
append_one (x ∷ xs) y ys = ap (λ r. x ∷ r) (append_one xs y ys)

module _ {L : Type 0} (step : ℕ → Tree L → Option (Tree L)) (q : Tree L) where
  justified_more : (before : List (Equation L)) (es : List (Reason × Equation L)) (e : Reason × Equation L) → AreJustifiedAfter step q before es → Justifies step q (before ++ equations_of es) e.0 e.1
      → AreJustifiedAfter step q before (es ++ e ∷ [])
  justified_more before [] e js j = (subst (λ b. Justifies step q b e.0 e.1) (append_nil before) j, tt)
  justified_more before (f ∷ es) e js j =
      (js.0, justified_more (before ++ f.1 ∷ []) es e js.1 (subst (λ b. Justifies step q b e.0 e.1) (sym (append_one before f.1 (equations_of es))) j))

pub zip_more : {A B : Type 0} (R : A → B → Type 0) (xs : List A) (ys : List B) (x : A) (y : B) → AllZip R xs ys → R x y → AllZip R (xs ++ x ∷ []) (ys ++ y ∷ [])
zip_more R [] [] x y all r = (r, tt)
zip_more R [] (b ∷ ys) x y all r = absurd all
zip_more R (a ∷ xs) [] x y all r = absurd all
zip_more R (a ∷ xs) (b ∷ ys) x y all r = (all.0, zip_more R xs ys x y all.1 r)

pub zip_map : {A B : Type 0} (R S : A → B → Type 0) (w : (a : A) (b : B) → R a b → S a b) (xs : List A) (ys : List B) → AllZip R xs ys → AllZip S xs ys
zip_map R S w [] [] all = tt
zip_map R S w [] (b ∷ ys) all = absurd all
zip_map R S w (a ∷ xs) [] all = absurd all
zip_map R S w (a ∷ xs) (b ∷ ys) all = (w a b all.0, zip_map R S w xs ys all.1)

module _ {L : Type 0} (step : ℕ → Tree L → Option (Tree L)) (q : Tree L) (ts : List (Term L)) (query : ℕ) (ls : List Line) (es : List (Reason × Equation L))
    (at_query : Stands ts query q) (all : AllZip (Shows ts) ls es) where
  -- the tree of a number, in place of another that it stands for
  abbrev Shown : Line → Reason → Type 0
  Shown l why = (e : Equation L) × Stands ts l.left e.left × Stands ts l.right e.right × (l.depth ≡ e.depth) × Justifies step q (equations_of es) why e

  at_line : (i : ℕ) (p : Line) → slice_get ls i ≡ Some p → (e : Equation L) × (slice_get (equations_of es) i ≡ Some e) × Stands ts p.left e.left × Stands ts p.right e.right × (p.depth ≡ e.depth)
  at_line i p h = let s = shown ts ls es i p all h in (s.0.1, equation_at es i s.0 s.1, s.2.0, s.2.1, s.2.2)

  -- a line that a reason justifies shows an equation that it justifies
  pub made_shown : (why : Reason) (l : Line) → Made step ts query ls why l → Shown l why
  made_shown Query l m = (equation q q 0, subst (λ n. Stands ts n q) (sym m.0) at_query, subst (λ n. Stands ts n q) (sym m.1) at_query, m.2, refl)
  made_shown (Part of at) l (p, at_p, in_u, same, deep) =
      let a = at_line of p at_p in
      let u = input_stands ts p.right at l.left a.0.right a.3 in_u in
      (equation u.0 u.0 a.0.depth, u.2, subst (λ n. Stands ts n u.0) (sym same) u.2, deep ∙ a.4, (a.0, u.0, a.1, u.1, refl))
  made_shown (Rule of r) l (p, at_p, (t, u, stands_t, stands_u, steps), left, deep) =
      let a = at_line of p at_p in
      let same : t ≡ a.0.right = one_tree ts p.right t a.0.right stands_t a.3 in (
        equation a.0.right u (suc a.0.depth),
        subst (λ n. Stands ts n a.0.right) (sym left) a.3,
        stands_u,
        deep ∙ ap suc a.4,
        (a.0, u, a.1, subst (λ w. step r w ≡ Some u) same steps, refl),
      )
  made_shown (Turn of) l (p, at_p, left, right, deep) =
      let a = at_line of p at_p in
      (equation a.0.right a.0.left a.0.depth, subst (λ n. Stands ts n a.0.right) (sym left) a.3, subst (λ n. Stands ts n a.0.left) (sym right) a.2, deep ∙ a.4, (a.0, a.1, refl))
  made_shown (Chain first second) l (p, r, at_p, at_r, meet, left, right, deep) =
      let a = at_line first p at_p in
      let b = at_line second r at_r in
      let same : a.0.right ≡ b.0.left = one_tree ts p.right a.0.right b.0.left a.3 (subst (λ n. Stands ts n b.0.left) (sym meet) b.2) in (
        equation a.0.left b.0.right (max a.0.depth b.0.depth),
        subst (λ n. Stands ts n a.0.left) (sym left) a.2,
        subst (λ n. Stands ts n b.0.right) (sym right) b.3,
        deep ∙ (λ i. max (a.4 i) (b.4 i)),
        (a.0, b.0, a.1, b.1, same, refl),
      )
  made_shown (Inside of at by) l (p, r, at_p, at_r, in_r, left, part, deep) =
      let a = at_line of p at_p in
      let b = at_line by r at_r in
      let u = input_stands ts p.right at r.left a.0.right a.3 in_r in
      let same : u.0 ≡ b.0.left = one_tree ts r.left u.0 b.0.left u.2 b.2 in (
        equation a.0.right (with_input a.0.right at b.0.right) (max a.0.depth b.0.depth),
        subst (λ n. Stands ts n a.0.right) (sym left) a.3,
        part_stands ts p.right at r.right l.right a.0.right b.0.right a.3 b.3 part,
        deep ∙ (λ i. max (a.4 i) (b.4 i)),
        (a.0, b.0, a.1, b.1, u.1 ∙ ap Some same, refl),
      )

within : {A : Type 0} (xs : List A) (i : ℕ) (x : A) → slice_get xs i ≡ Some x → i < length xs
within [] i x e = cc
within (y ∷ xs) zero x e = omega arith
within (y ∷ xs) (suc i) x e = let h = within xs i x e in omega (arith, h)

module _ {L : Type 0} (step : ℕ → Tree L → Option (Tree L)) (ts : List (Term L)) (query : ℕ) (ls : List Line) (shallow : AreShallow ls) where
  -- a new line is no deeper than its number
  made_shallow : (why : Reason) (l : Line) → Made step ts query ls why l → l.depth ≤ length ls
  made_shallow Query l m = let d = m.2 in omega (arith, d)
  made_shallow (Part of at) l (p, at_p, in_u, same, deep) = let h = shallow of p at_p in let w = within ls of p at_p in omega (arith, h, w, deep)
  made_shallow (Rule of r) l (p, at_p, gives, left, deep) = let h = shallow of p at_p in let w = within ls of p at_p in omega (arith, h, w, deep)
  made_shallow (Turn of) l (p, at_p, left, right, deep) = let h = shallow of p at_p in let w = within ls of p at_p in omega (arith, h, w, deep)
  made_shallow (Chain first second) l (p, r, at_p, at_r, meet, left, right, deep) =
      let h = shallow first p at_p in let w = within ls first p at_p in let k = shallow second r at_r in let v = within ls second r at_r in omega (arith, h, w, k, v, deep)
  made_shallow (Inside of at by) l (p, r, at_p, at_r, in_r, left, part, deep) =
      let h = shallow of p at_p in let w = within ls of p at_p in let k = shallow by r at_r in let v = within ls by r at_r in omega (arith, h, w, k, v, deep)

shallow_more : (ls : List Line) (l : Line) → AreShallow ls → l.depth ≤ length ls → AreShallow (ls ++ l ∷ [])
shallow_more ls l s d i k e = elim (at_end ls l i k e) [ inl h ↦ s i k h | inr h ↦ subst (λ (x : Line). x.depth ≤ i) h.0 (subst (λ n. l.depth ≤ n) (sym h.1) d) ]

-- a number that stands for a tree is there
pub stands_within : {L : Type 0} (ts : List (Term L)) (n : ℕ) (t : Tree L) → Stands ts n t → n < length ts
unfolding Stands
stands_within ts n (node l us) h = within ts n h.0 h.1

there_more : {L : Type 0} (ts : List (Term L)) (ls : List Line) (l : Line) → AreThere ts ls → (l.left < length ts) × (l.right < length ts) → AreThere ts (ls ++ l ∷ [])
there_more ts ls l s d i k e = elim (at_end ls l i k e) [ inl h ↦ s i k h | inr h ↦ subst (λ (x : Line). (x.left < length ts) × (x.right < length ts)) h.0 d ]

zip_there : {L : Type 0} (ts : List (Term L)) (ls : List Line) (es : List (Reason × Equation L)) → AllZip (Shows ts) ls es → AreThere ts ls
zip_there ts ls es all i l h = let s = shown ts ls es i l all h in (stands_within ts l.left s.0.1.left s.2.0, stands_within ts l.right s.0.1.right s.2.1)

one_below : (k n : ℕ) → n < k → All (λ m. m < k) (n ∷ [])
one_below k n h zero d w = h
one_below k n h (suc i) d w = let e : ⊥ = omega (arith, w) in absurd e

two_below : (k m n : ℕ) → m < k → n < k → All (λ i. i < k) (m ∷ n ∷ [])
two_below k m n h h' zero d w = h
two_below k m n h h' (suc zero) d w = h'
two_below k m n h h' (suc (suc i)) d w = let e : ⊥ = omega (arith, w) in absurd e

-- a reason that justifies a line names earlier lines
made_backward : {L : Type 0} (step : ℕ → Tree L → Option (Tree L)) (ts : List (Term L)) (query : ℕ) (ls : List Line) (why : Reason) (l : Line) → Made step ts query ls why l → All (λ n. n < length ls) (rests_on why)
made_backward step ts query ls Query l m = λ i d w. let e : ⊥ = omega (arith, w) in absurd e
made_backward step ts query ls (Part of at) l m = one_below (length ls) of (within ls of m.0 m.1)
made_backward step ts query ls (Rule of r) l m = one_below (length ls) of (within ls of m.0 m.1)
made_backward step ts query ls (Turn of) l m = one_below (length ls) of (within ls of m.0 m.1)
made_backward step ts query ls (Chain first second) l m = two_below (length ls) first second (within ls first m.0 m.2) (within ls second m.1 m.3)
made_backward step ts query ls (Inside of at by) l m = two_below (length ls) of by (within ls of m.0 m.2) (within ls by m.1 m.3)

backward_more : (ls : List Line) (l : Line) → AreBackward ls → All (λ n. n < length ls) (rests_on l.why) → AreBackward (ls ++ l ∷ [])
backward_more ls l b all i k e = elim (at_end ls l i k e) [ inl h ↦ b i k h | inr h ↦ subst (λ (x : Line). All (λ n. n < i) (rests_on x.why)) h.0 (subst (λ j. All (λ n. n < j) (rests_on l.why)) (sym h.1) all) ]

-- more terms
pub more_terms : {L : Type 0} (step : ℕ → Tree L → Option (Tree L)) (old new : List (Term L)) (query : ℕ) (ls : List Line) → IsLog step old query ls → take (length old) new ≡ old → IsLog step new query ls
more_terms {L} step old new query ls log kept =
    let keeps = keeps_of_take old new kept in
    let shows = zip_map (Shows old) (Shows new) (λ l e h. (stands_still old new keeps l.left e.1.left h.0, stands_still old new keeps l.right e.1.right h.1, h.2, h.3)) ls log.equations log.shows in
    record {
      tree = log.tree;
      stands = stands_still old new keeps query log.tree log.stands;
      equations = log.equations;
      shows = shows;
      justified = log.justified;
      shallow = log.shallow;
      there = zip_there new ls log.equations shows;
      backward = log.backward;
    }

-- one more line
pub pushed : {L : Type 0} (step : ℕ → Tree L → Option (Tree L)) (ts : List (Term L)) (query : ℕ) (ls : List Line) (why : Reason) (l : Line) → IsLog step ts query ls → l.why ≡ why → Made step ts query ls why l
    → IsLog step ts query (ls ++ l ∷ [])
pushed step ts query ls why l log is made =
    let s = made_shown step log.tree ts query ls log.equations log.stands log.shows why l made in
    let shows = zip_more (Shows ts) ls log.equations l (why, s.0) log.shows (s.1, s.2, s.3, is) in
    record {
      tree = log.tree;
      stands = log.stands;
      equations = log.equations ++ (why, s.0) ∷ [];
      shows = shows;
      justified = justified_more step log.tree [] log.equations (why, s.0) log.justified s.4;
      shallow = shallow_more ls l log.shallow (made_shallow step ts query ls log.shallow why l made);
      there = zip_there ts (ls ++ l ∷ []) (log.equations ++ (why, s.0) ∷ []) shows;
      backward = backward_more ls l log.backward (subst (λ w. All (λ n. n < length ls) (rests_on w)) (sym is) (made_backward step ts query ls why l made));
    }

-- the first line
pub first_line : {L : Type 0} (step : ℕ → Tree L → Option (Tree L)) (ts : List (Term L)) (query : ℕ) (q : Tree L) (l : Line) → Stands ts query q → l.left ≡ query → l.right ≡ query → l.why ≡ Query → l.depth ≡ 0 → IsLog step ts query (l ∷ [])
first_line step ts query q l at left right why deep =
    let none : IsLog step ts query [] = record {
      tree = q;
      stands = at;
      equations = [];
      shows = tt;
      justified = tt;
      shallow = λ i k e. cc;
      there = λ i k e. cc;
      backward = λ i k e. cc;
    } in pushed step ts query [] Query l none why (left, right, deep)
