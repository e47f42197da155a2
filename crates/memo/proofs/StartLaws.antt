-- The nodes of the query, each with a line.
use Rattle.std.proofs.Common.{◌≡◌, ℕ, zero, suc, ◌+◌, ◌<◌, ◌≤◌, List, [], ◌∷◌, Option, Some, None, length, take, slice_get, slice_set, refl, ap, sym, ◌∙◌, subst, arith, inl, inr}
use Rattle.std.specs.Prelude.{◌⊎◌, ◌↔◌, All}
use Rattle.pr_value.specs.Trees.{Tree}
use Rattle.derivation.specs.Log.{LogValue, Pushes}
use Rattle.derivation.specs.Made.{IsInput}
use Rattle.derivation.specs.Table.{AreEarlier}
use Rattle.derivation.specs.declared.reason.Line.{Line}
use Rattle.derivation.specs.declared.reason.Reason.TheVariants.{Part}
use Rattle.derivation.specs.declared.terms.Term.{Term}
use Rattle.derivation.proofs.StandsLaws.{keeps_of_take}
use Rattle.derivation.proofs.TableLaws.{at_end}
use Rattle.memo.specs.declared.expr.Expr.{Expr}
use Rattle.memo.specs.Adding.{AddsExpr}
use Rattle.memo.specs.Forest.{HasLine, EndsAt, IsForest}
use Rattle.memo.specs.Grew.{Grew, AreNoDeeper}
use Rattle.memo.specs.Kept.{IsMemo}
use Rattle.memo.specs.declared.expr.Known.{Known}
use Rattle.memo.specs.Start.{IsNode, itself, input, IsFresh, IsOwned, AreOwnLines, IsInputOf, IsOwnedToo, OwnsInputs, OwnsFirst, IsOwning, IsStarted, IsNodeAdded, Parts}
use Rattle.memo.proofs.GrewLaws.{grew_by, deeper_more, has_line, line_still, le_refl}
use Rattle.memo.proofs.RebuildLaws.{below_or, front, last}
use Rattle.memo.proofs.UnionLaws.{within, got, same_or, set_same, set_other, length_set}

some_is : {A : Type 0} (a b : A) → Some a ≡ Some b → a ≡ b
some_is a b e = cc

-- a part pushes the input's own line
pub part_grew : {L S : Type 0} (step : ℕ → Tree L → Option (Tree L)) (old new : LogValue L S) → (new.steps ≡ old.steps) × (new.query ≡ old.query) → take (length old.terms) new.terms ≡ old.terms → (of at i : ℕ)
    → (i ≡ length old.lines) × Pushes step new.terms old.query old.lines new.lines (Part of at) → Grew old new × Parts old new of at i
part_grew {L} step old new same kept of at i (end, (l, is, why, (p, at_p, (t, at_t, at_in), right, deep))) = (
  grew_by step old new same kept l is (subst (λ w. AreNoDeeper old.lines w) (sym is) (deeper_more old.lines l (of, p, at_p, subst (λ d. l.depth ≤ d) deep (le_refl l.depth)))),
  λ m n k (a, at_a, left_a, right_a) (s, at_s, in_s).
      let right_p : p.right ≡ n = ap (λ (x : Line). x.right) (some_is p a (sym at_p ∙ at_a)) ∙ right_a in
      let same_t : t ≡ s = some_is t s (sym at_t ∙ ap (λ x. slice_get new.terms x) right_p ∙ keeps_of_take old.terms new.terms kept n s at_s) in
      let left_k : l.left ≡ k = some_is l.left k (sym at_in ∙ ap (λ (x : Term L). slice_get x.inputs at) same_t ∙ in_s) in
      subst (λ x. HasLine new.lines x k k) (sym end) (has_line old.lines new.lines l k k is left_k (right ∙ left_k)),
)

pub own_grew : {L S : Type 0} (old new : LogValue L S) (own : List (Option ℕ)) → Grew old new → AreOwnLines old.lines own → AreOwnLines new.lines own
own_grew old new own grew lines n i at = line_still old new i n n grew (lines n i at)

-- a term that has a line keeps it
pub owned_same : (own : List (Option ℕ)) (m : ℕ) → IsOwned own m → IsOwnedToo own own m
owned_same own m now = record { long = refl; now = now; kept = λ k h. h; back = λ k h. inl h }

-- a term gets a line
module _ (old new : List (Option ℕ)) (m i : ℕ) (low : m < length old) (is : new ≡ slice_set old m (Some i)) where
  at_m : slice_get new m ≡ Some (Some i)
  at_m = let (x, at) = got old m low in ap (λ w. slice_get w m) is ∙ set_same old m x (Some i) at

  at_else : (k : ℕ) → (m ≡ k → ⊥) → slice_get new k ≡ slice_get old k
  at_else k o = ap (λ w. slice_get w k) is ∙ set_other old m k (Some i) o

  pub owned_now : IsOwnedToo old new m
  owned_now = record {
    long = ap (λ w. length w) is ∙ length_set old m (Some i);
    now = (i, at_m);
    kept = λ k (j, at). elim (same_or m k) [ inl s ↦ (i, ap (λ x. slice_get new x) (sym s) ∙ at_m) | inr o ↦ (j, at_else k o ∙ at) ];
    back = λ k (j, at). elim (same_or m k) [ inl s ↦ inr (sym s) | inr o ↦ inl (j, sym (at_else k o) ∙ at) ];
  }

  pub lines_now : (lines : List Line) → HasLine lines i m m → AreOwnLines lines old → AreOwnLines lines new
  lines_now lines has own k j at = elim (same_or m k) [
    | inl s ↦
        let same : i ≡ j = some_is i j (some_is (Some i) (Some j) (sym at_m ∙ ap (λ x. slice_get new x) s ∙ at)) in
        subst (λ x. HasLine lines j x x) s (subst (λ x. HasLine lines x m m) same has)
    | inr o ↦ own k j (sym (at_else k o) ∙ at)
  ]

pub first_none : (own : List (Option ℕ)) (inputs : List ℕ) → OwnsFirst own own inputs 0
first_none own inputs = record { long = refl; all = λ at m low. let b : ⊥ = omega (arith, low) in absurd b; kept = λ m h. h; back = λ m h. inl h }

pub first_more : (old mid new : List (Option ℕ)) (inputs : List ℕ) (k m : ℕ) → OwnsFirst old mid inputs k → slice_get inputs k ≡ Some m → IsOwnedToo mid new m → OwnsFirst old new inputs (k + 1)
first_more old mid new inputs k m f at_k too = record {
  long = too.long ∙ f.long;
  all = λ at n low at_n. elim (below_or at k low) [
    | inl h ↦ too.kept n (f.all at n h at_n)
    | inr s ↦ subst (IsOwned new) (some_is m n (sym at_k ∙ ap (λ x. slice_get inputs x) (sym s) ∙ at_n)) too.now
  ];
  kept = λ n h. too.kept n (f.kept n h);
  back = λ n h. elim (too.back n h) [ inl a ↦ f.back n a | inr s ↦ inr (k, at_k ∙ ap (λ x. Some x) (sym s)) ];
}

-- the inputs of a term that has a line
pub inputs_owned : {L : Type 0} (terms : List (Term L)) (old new : List (Option ℕ)) (n : ℕ) (t : Term L) → IsOwned old n → slice_get terms n ≡ Some t → OwnsFirst old new t.inputs (length t.inputs) → OwnsInputs terms old new n
inputs_owned {L} terms old new n t here at f = record {
  long = f.long;
  all = λ m h (k, (s, at_s, at_m)).
      let same : s ≡ t = some_is s t (sym at_s ∙ at) in
      let there : slice_get t.inputs k ≡ Some m = ap (λ (x : Term L). slice_get x.inputs k) (sym same) ∙ at_m in
      f.all k m (within t.inputs k m there) there;
  kept = f.kept;
  back = λ m h. elim (f.back m h) [ inl a ↦ inl a | inr (k, at_m) ↦ inr (here, (k, (t, at, at_m))) ];
}

-- a term that has none gives none
pub inputs_none : {L : Type 0} (terms : List (Term L)) (own : List (Option ℕ)) (n : ℕ) → (IsOwned own n → ⊥) → OwnsInputs terms own own n
inputs_none terms own n none = record { long = refl; all = λ m h i. absurd (none h); kept = λ m h. h; back = λ m h. inl h }

-- the same of the terms of a shorter log
pub inputs_before : {L : Type 0} (first terms : List (Term L)) (old new : List (Option ℕ)) (n : ℕ) → take (length first) terms ≡ first → n < length first → OwnsInputs terms old new n → OwnsInputs first old new n
inputs_before {L} first terms old new n kept low o =
    let (t, at) = got first n low in record {
      long = o.long;
      all = λ m h (k, (s, at_s, at_m)). o.all m h (k, (s, keeps_of_take first terms kept n s at_s, at_m));
      kept = o.kept;
      back = λ m h. elim (o.back m h) [
        | inl a ↦ inl a
        | inr (a, (k, (s, at_s, at_m))) ↦
            let same : s ≡ t = some_is s t (sym at_s ∙ keeps_of_take first terms kept n t at) in
            inr (a, (k, (t, at, ap (λ (x : Term L). slice_get x.inputs k) (sym same) ∙ at_m)))
      ];
    }

all_low : (P : ℕ → Type 0) (xs : List ℕ) (k m : ℕ) → All P xs → slice_get xs k ≡ Some m → P m
all_low P [] k m all at = cc
all_low P (x ∷ xs) zero m all at = subst P (some_is x m at) (all zero x (omega arith))
all_low P (x ∷ xs) (suc k) m all at = all_low P xs k m (λ n d h. all (suc n) d (omega (arith, h))) at

strictly : (n x : ℕ) → n ≤ x → (n ≡ x → ⊥) → suc n ≤ x
strictly zero zero h d = absurd (d refl)
strictly zero (suc x) h d = omega arith
strictly (suc n) zero h d = let b : ⊥ = omega (arith, h) in absurd b
strictly (suc n) (suc x) h d = let l = strictly n x (omega (arith, h)) (λ e. d (ap suc e)) in omega (arith, l)

above : (n x k a b : ℕ) → b ≡ a → n + suc k ≡ a → b ≤ x + (k + 1) → (n ≡ x → ⊥) → a ≤ x + k
above n x k a b e f h d = let l = strictly n x (omega (arith, e, f, h)) d in omega (arith, f, l)

-- one node more has been looked at
pub owning_next : {L : Type 0} (terms : List (Term L)) (query k n : ℕ) (old new : List (Option ℕ)) → AreEarlier terms → IsOwning terms query old k → n + suc k ≡ length old → OwnsInputs terms old new n → IsOwning terms query new (k + 1)
owning_next {L} terms query k n old new earlier w end o = record {
  long = o.long ∙ w.long;
  start = o.kept query w.start;
  node = λ m h. elim (o.back m h) [ inl a ↦ w.node m a | inr (a, (at, i)) ↦ input at (w.node n a) i ];
  closed = λ x m high h i. elim (o.back x h) [
    | inl a ↦ by x m high a i (same_or n x)
    | inr (a, (at, (t, at_t, at_x))) ↦
        let low : x < n = all_low (λ y. y < n) t.inputs at x (earlier n t at_t) at_x in
        let long = o.long in
        let b : ⊥ = omega (arith, low, high, end, long) in absurd b
  ];
}
  where
    by : (x m : ℕ) → length new ≤ x + (k + 1) → IsOwned old x → IsInputOf terms x m → (n ≡ x) ⊎ (n ≡ x → ⊥) → IsOwned new m
    by x m high a i (inl s) = o.all m (subst (IsOwned old) (sym s) a) (subst (λ y. IsInputOf terms y m) (sym s) i)
    by x m high a i (inr d) = o.kept m (w.closed x m (above n x k (length old) (length new) o.long end high d) a i)

-- at first the query has a line
pub owning_first : {L : Type 0} (terms : List (Term L)) (query line : ℕ) (own : List (Option ℕ)) → length own ≡ suc query → slice_get own query ≡ Some (Some line) → ((n i : ℕ) → slice_get own n ≡ Some (Some i) → (n ≡ query) × (i ≡ line)) → IsOwning terms query own 0
owning_first terms query line own long at only = record {
  long = long;
  start = (line, at);
  node = λ n (i, at_n). subst (IsNode terms query) (sym (only n i at_n).0) itself;
  closed = λ n m high (i, at_n). let low = within own n (Some i) at_n in let b : ⊥ = omega (arith, low, high) in absurd b;
}

pub lines_first : (lines : List Line) (query line : ℕ) (own : List (Option ℕ)) → HasLine lines line query query → ((n i : ℕ) → slice_get own n ≡ Some (Some i) → (n ≡ query) × (i ≡ line)) → AreOwnLines lines own
lines_first lines query line own has only n i at =
    let (is_n, is_i) = only n i at in
    subst (λ x. HasLine lines x n n) (sym is_i) (subst (λ x. HasLine lines line x x) (sym is_n) has)

-- at the end just the nodes have lines
pub owning_last : {L : Type 0} (terms : List (Term L)) (query : ℕ) (own : List (Option ℕ)) → IsOwning terms query own (length own) → (n : ℕ) → IsOwned own n ↔ IsNode terms query n
owning_last terms query own w q = (w.node q, has)
  where
    has : {m : ℕ} → IsNode terms query m → IsOwned own m
    has itself = w.start
    has {m} (input {n} at h i) = w.closed n m (omega arith) (has h) (at, i)

-- nothing is known, and there are no expressions
pub memo_none : {L : Type 0} (terms : List (Term L)) (lines : List Line) → IsMemo terms lines [] [] [] []
memo_none terms lines = record {
  forest = record { older = λ i e at. cc; home = λ i e at. cc; ends = λ i e at. cc; fits = λ i e at. cc; seen = λ n k at. cc };
  indexed = (λ i e low at live. cc, λ key i (n, at). cc);
  apart = λ i j a b low low' at_a at_b live_a live_b label inputs. cc;
  canonical = λ i e at live. cc;
  complete = λ i e at. cc;
  joinable = λ n j at. cc;
}

pub started_none : (L : Type 0) (own : List (Option ℕ)) → IsStarted {L = L} own [] 0
started_none L own = record { done = λ i e at. cc; each = λ m low h. let b : ⊥ = omega (arith, low) in absurd b; ascending = λ i j e f at_e at_f low. cc }

-- a class that has the number after the last is a new one
pub node_added : {L : Type 0} (old new : List (Expr L)) (label : L) (classes : List ℕ) (line c : ℕ) → c ≡ length old → AddsExpr old new label classes line c → IsNodeAdded old new line
node_added old new label classes line c end (inl (same, (i, alike, (a, b, at_a, at_b, one)))) =
    let low = within old c b at_b in
    let none : ⊥ = omega (arith, low, end) in
    absurd none
node_added old new label classes line c end (inr (same, (e, is, own, labels, zip, is_line, live, none))) = (e, is, own, is_line, live)

-- a term without a line is passed
pub started_pass : {L : Type 0} (own : List (Option ℕ)) (exprs : List (Expr L)) (n : ℕ) → (IsOwned own n → ⊥) → IsStarted own exprs n → IsStarted own exprs (suc n)
started_pass own exprs n none s = record {
  done = λ i e at. let (class, live, low, owned) = s.done i e at in (class, live, omega (arith, low), owned);
  each = λ m low h. elim (below_or m n (omega (arith, low))) [ inl k ↦ s.each m k h | inr is ↦ absurd (none (subst (IsOwned own) is h)) ];
  ascending = s.ascending;
}

ends_one : (lines : List Line) (i m n : ℕ) → EndsAt lines i m → EndsAt lines i n → m ≡ n
ends_one lines i m n (a, at_a, is_a) (b, at_b, is_b) = sym is_a ∙ ap (λ (l : Line). l.right) (some_is a b (sym at_a ∙ at_b)) ∙ is_b

-- a term with a line has a class now
pub started_more : {L : Type 0} (terms : List (Term L)) (lines : List Line) (known : List (Option Known)) (own : List (Option ℕ)) (old new : List (Expr L)) (n line : ℕ) → slice_get own n ≡ Some (Some line) → HasLine lines line n n → IsForest terms lines new known → IsNodeAdded old new line
    → IsStarted own old n → IsStarted own new (suc n)
started_more {L} terms lines known own old new n line at_n (l, at_l, left, right) forest (e, is, own_e, is_line, live) s = record {
  done = λ i x at. elim (was i x at) [
    | inl h ↦ let (class, lives, low, owned) = s.done i x h in (class, lives, omega (arith, low), owned)
    | inr (same, end) ↦
        let tree_x : x.tree ≡ n = ap (λ (y : Expr L). y.tree) (sym same) ∙ tree in
        (ap (λ (y : Expr L). y.class) (sym same) ∙ own_e ∙ sym end, ap (λ (y : Expr L). y.live) (sym same) ∙ live, omega (arith, tree_x), (line, ap (λ k. slice_get own k) tree_x ∙ at_n))
  ];
  each = λ m low h. elim (below_or m n (omega (arith, low))) [
    | inl k ↦ let (i, x, at, t) = s.each m k h in (i, x, up i x at, t)
    | inr same ↦ (length old, e, at_end_e, tree ∙ sym same)
  ];
  ascending = λ i j x y at_x at_y low. by i j x y low (was i x at_x) (was j y at_y);
}
  where
    was : (i : ℕ) (x : Expr L) → slice_get new i ≡ Some x → (slice_get old i ≡ Some x) ⊎ ((e ≡ x) × (i ≡ length old))
    was i x at = at_end old e i x (ap (λ w. slice_get w i) (sym is) ∙ at)

    up : (i : ℕ) (x : Expr L) → slice_get old i ≡ Some x → slice_get new i ≡ Some x
    up i x at = ap (λ w. slice_get w i) is ∙ front old (e ∷ []) i x at

    at_end_e : slice_get new (length old) ≡ Some e
    at_end_e = ap (λ w. slice_get w (length old)) is ∙ last old e

    tree : e.tree ≡ n
    tree = ends_one lines e.line e.tree n (forest.ends (length old) e at_end_e) (l, ap (λ k. slice_get lines k) is_line ∙ at_l, right)

    by : (i j : ℕ) (x y : Expr L) → i < j → (slice_get old i ≡ Some x) ⊎ ((e ≡ x) × (i ≡ length old)) → (slice_get old j ≡ Some y) ⊎ ((e ≡ y) × (j ≡ length old)) → x.tree < y.tree
    by i j x y low (inl h) (inl k) = s.ascending i j x y h k low
    by i j x y low (inl h) (inr k) =
        let (class, lives, less, owned) = s.done i x h in
        let tree_y : y.tree ≡ n = ap (λ (z : Expr L). z.tree) (sym k.0) ∙ tree in
        omega (arith, less, tree_y)
    by i j x y low (inr h) (inl k) = let there = within old j y k in let end = h.1 in let b : ⊥ = omega (arith, there, end, low) in absurd b
    by i j x y low (inr h) (inr k) = let end = h.1 in let end' = k.1 in let b : ⊥ = omega (arith, end, end', low) in absurd b

-- each node has its class
pub fresh_of : {L : Type 0} (terms now : List (Term L)) (query : ℕ) (lines : List Line) (known : List (Option Known)) (own : List (Option ℕ)) (exprs : List (Expr L)) → ((n : ℕ) → IsOwned own n ↔ IsNode terms query n) → IsForest now lines exprs known
    → IsStarted own exprs (length own) → IsFresh terms query lines exprs
fresh_of {L} terms now query lines known own exprs nodes forest s = record {
  own = λ i e at. let (class, live, low, owned) = s.done i e at in (class, live, (e.tree, (nodes e.tree).0 owned, forest.ends i e at));
  each = λ n node.
      let owned = (nodes n).1 node in
      let (i, e, at, tree) = s.each n (within own n (Some owned.0) owned.1) owned in
      (i, e, at, subst (EndsAt lines e.line) tree (forest.ends i e at));
  ascending = λ i j m n e f at_e at_f ends_e ends_f low.
      let less = s.ascending i j e f at_e at_f low in
      let is_m : e.tree ≡ m = ends_one lines e.line e.tree m (forest.ends i e at_e) ends_e in
      let is_n : f.tree ≡ n = ends_one lines f.line f.tree n (forest.ends j f at_f) ends_f in
      omega (arith, less, is_m, is_n);
}

pub input_at : {L S : Type 0} (old new : LogValue L S) (n k m : ℕ) (inputs : List ℕ) → Grew old new → ((t : Term L) × (slice_get old.terms n ≡ Some t) × (t.inputs ≡ inputs)) → slice_get inputs k ≡ Some m → IsInput new.terms n k m
input_at {L} old new n k m inputs grew (t, at, is) at_m = (t, keeps_of_take old.terms new.terms grew.terms n t at, ap (λ ns. slice_get ns k) is ∙ at_m)

pub none_owned : (own : List (Option ℕ)) (n : ℕ) → slice_get own n ≡ Some None → IsOwned own n → ⊥
none_owned own n at (i, at') = let e : Some None ≡ Some (Some i) = sym at ∙ at' in cc
