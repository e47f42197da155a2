-- One pass over the expressions.
use Rattle.std.proofs.Common.{◌≡◌, ℕ, zero, suc, ◌+◌, ◌<◌, ◌≤◌, Bool, true, false, List, [], ◌∷◌, ◌++◌, length, Option, Some, None, slice_get, slice_set, refl, ap, sym, ◌∙◌, subst, arith, inl, inr, true≢false}
use Rattle.std.specs.Prelude.{◌⊎◌, All, MatchOption}
use Rattle.std.specs.List.{AllZip}
use Rattle.derivation.specs.Table.{term}
use Rattle.derivation.specs.declared.reason.Line.{Line}
use Rattle.derivation.specs.declared.terms.Term.{Term}
use Rattle.derivation.proofs.TableLaws.{at_end}
use Rattle.memo.specs.declared.expr.Expr.{Expr}
use Rattle.memo.specs.declared.expr.Known.{Known}
use Rattle.memo.specs.declared.expr.Join.{Join}
use Rattle.memo.specs.Forest.{HasLine, IsOneClass, IsKnownIn, Fits, IsForest}
use Rattle.memo.specs.Index.{IsEntry, IsAbsent, Enters}
use Rattle.memo.specs.Kept.{IsRoot, Indexes, AreApart}
use Rattle.memo.specs.Merge.{ups_of, AreJoinable}
use Rattle.memo.specs.Union.{IsRootOf, IsTied, was, joined, turned, chained}
use Rattle.memo.specs.Reach.{AreNear, AreAlike}
use Rattle.memo.specs.Rebuild.{IsRootClass, renamed, AreAlikeOver, AreTwins, IsNoted, IsRenamed, IsCovered, IsPass, IsReindexed}
use Rattle.memo.proofs.MergeLaws.{class_root}
use Rattle.memo.proofs.LeastLaws.{class_sym, class_trans, classes_sym, classes_trans}
use Rattle.memo.proofs.KeepLaws.{zip_map}
use Rattle.memo.specs.Grew.{Grew}
use Rattle.derivation.specs.Log.{LogValue}
use Rattle.memo.proofs.GrewLaws.{line_still}
use Rattle.memo.proofs.UnionLaws.{within, got, same_or, set_same, set_other, length_set}

some_is : {A : Type 0} (a b : A) → Some a ≡ Some b → a ≡ b
some_is a b e = cc

pub below_or : (i n : ℕ) → i < n + 1 → (i < n) ⊎ (i ≡ n)
below_or zero zero h = inr refl
below_or zero (suc n) h = inl (omega arith)
below_or (suc i) zero h = let e : ⊥ = omega (arith, h) in absurd e
below_or (suc i) (suc n) h = elim (below_or i n (omega (arith, h))) [ inl k ↦ inl (omega (arith, k)) | inr e ↦ inr (ap suc e) ]

pub front : {A : Type 0} (xs ys : List A) (n : ℕ) (x : A) → slice_get xs n ≡ Some x → slice_get (xs ++ ys) n ≡ Some x
front [] ys n x e = cc
front (z ∷ xs) ys zero x e = e
front (z ∷ xs) ys (suc n) x e = front xs ys n x e

pub last : {A : Type 0} (xs : List A) (x : A) → slice_get (xs ++ x ∷ []) (length xs) ≡ Some x
last [] x = refl
last (z ∷ xs) x = last xs x

-- more joins tie what fewer tie
pub tied_more : {L : Type 0} (exprs : List (Expr L)) (joins more : List Join) {x y : ℕ} → IsTied (ups_of exprs) joins x y → IsTied (ups_of exprs) (joins ++ more) x y
tied_more exprs joins more (was s) = was s
tied_more exprs joins more (joined j i at) = joined j i (front joins more i j at)
tied_more exprs joins more (turned h) = turned (tied_more exprs joins more h)
tied_more exprs joins more (chained h k) = chained (tied_more exprs joins more h) (tied_more exprs joins more k)

pub all_none : (P : ℕ → Type 0) → All P []
all_none P k d low = let e : ⊥ = omega (arith, low) in absurd e

pub all_more : (P : ℕ → Type 0) (x : ℕ) (xs : List ℕ) → P x → All P xs → All P (x ∷ xs)
all_more P x xs h all zero d low = h
all_more P x xs h all (suc k) d low = all k d (omega (arith, low))

module _ {L : Type 0} (lines : List Line) (first old new : List (Expr L)) (entries entries' : List (Term L × ℕ)) (joins joins' : List Join) (n : ℕ)
    (p : IsPass lines first old entries joins n) (e e' : Expr L) (at : slice_get first n ≡ Some e)
    (long : length new ≡ length old) (at_n : slice_get new n ≡ Some e') (other : (i : ℕ) → (n ≡ i → ⊥) → slice_get new i ≡ slice_get old i)
    (renamed_n : IsRenamed first e e')
    (roots_n : e'.live ≡ true → All (IsRoot first) e'.inputs)
    (indexed : Indexes entries' new (n + 1))
    (apart_n : (i : ℕ) (a : Expr L) → i < n → slice_get new i ≡ Some a → a.live ≡ true → e'.live ≡ true → a.label ≡ e'.label → a.inputs ≡ e'.inputs → ⊥)
    (covered_n : e.live ≡ true → IsCovered first new joins' (n + 1) n e)
    (still : (x y : ℕ) → IsTied (ups_of first) joins x y → IsTied (ups_of first) joins' x y)
    (joinable : AreJoinable lines first joins')
    (alike : (m : ℕ) (j : Join) (a b : Expr L) → slice_get joins' m ≡ Some j → slice_get first j.left ≡ Some a → slice_get first j.right ≡ Some b → AreAlikeOver first a b) where
  less : (i : ℕ) → i < n → slice_get new i ≡ slice_get old i
  less i low = other i (λ s. let b : ⊥ = omega (arith, s, low) in b)

  is_n : (i : ℕ) (a : Expr L) → i ≡ n → slice_get new i ≡ Some a → e' ≡ a
  is_n i a s at_a = some_is e' a (sym at_n ∙ ap (λ k. slice_get new k) (sym s) ∙ at_a)

  stays : (i : ℕ) (x : Expr L) → slice_get first i ≡ Some x → (x' : Expr L) × (slice_get new i ≡ Some x') × IsRenamed first x x'
  stays i x at_x = by (same_or n i)
    where
      by : (n ≡ i) ⊎ (n ≡ i → ⊥) → (x' : Expr L) × (slice_get new i ≡ Some x') × IsRenamed first x x'
      by (inl s) = (e', ap (λ k. slice_get new k) (sym s) ∙ at_n, subst (λ (y : Expr L). IsRenamed first y e') (some_is e x (sym at ∙ ap (λ k. slice_get first k) s ∙ at_x)) renamed_n)
      by (inr o) = let (x', at_x', r) = p.stays i x at_x in (x', other i o ∙ at_x', r)

  -- a covering expression is still there
  covered_still : (i : ℕ) (x : Expr L) → i < n → slice_get first i ≡ Some x → x.live ≡ true → IsCovered first new joins' (n + 1) i x
  covered_still i x low at_x live =
      let (k, low_k, f, at_f, live_f, al, tie) = p.covered i x low at_x live in
      (k, omega (arith, low_k), f, less k low_k ∙ at_f, live_f, al, still k i tie)

  apart : AreApart new (n + 1)
  apart i j a b low_i low_j at_a at_b live_a live_b label inputs = by (below_or i n low_i) (below_or j n low_j)
    where
      by : (i < n) ⊎ (i ≡ n) → (j < n) ⊎ (j ≡ n) → i ≡ j
      by (inl h) (inl k) = p.apart i j a b h k (sym (less i h) ∙ at_a) (sym (less j k) ∙ at_b) live_a live_b label inputs
      by (inl h) (inr s) =
          let is : e' ≡ b = is_n j b s at_b in
          absurd (apart_n i a h at_a live_a (ap (λ (z : Expr L). z.live) is ∙ live_b) (label ∙ ap (λ (z : Expr L). z.label) (sym is)) (inputs ∙ ap (λ (z : Expr L). z.inputs) (sym is)))
      by (inr s) (inl k) =
          let is : e' ≡ a = is_n i a s at_a in
          absurd (apart_n j b k at_b live_b (ap (λ (z : Expr L). z.live) is ∙ live_a) (sym label ∙ ap (λ (z : Expr L). z.label) (sym is)) (sym inputs ∙ ap (λ (z : Expr L). z.inputs) (sym is)))
      by (inr s) (inr t) = s ∙ sym t

  -- one expression more is passed
  pub pass_next : IsPass lines first new entries' joins' (n + 1)
  pass_next = record {
    long = long ∙ p.long;
    stays = stays;
    rest = λ i high. other i (λ s. let b : ⊥ = omega (arith, s, high) in b) ∙ p.rest i (omega (arith, high));
    roots = λ i x low at_x live. elim (below_or i n low) [
      | inl h ↦ p.roots i x h (sym (less i h) ∙ at_x) live
      | inr s ↦ let is : e' ≡ x = is_n i x s at_x in subst (λ (z : Expr L). All (IsRoot first) z.inputs) is (roots_n (ap (λ (z : Expr L). z.live) is ∙ live))
    ];
    indexed = indexed;
    apart = apart;
    covered = λ i x low at_x live. elim (below_or i n low) [
      | inl h ↦ covered_still i x h at_x live
      | inr s ↦ let is : e ≡ x = some_is e x (sym at ∙ ap (λ k. slice_get first k) (sym s) ∙ at_x) in
          subst (λ k. IsCovered first new joins' (n + 1) k x) (sym s) (subst (λ (z : Expr L). IsCovered first new joins' (n + 1) n z) is (covered_n (ap (λ (z : Expr L). z.live) is ∙ live)))
    ];
    joinable = joinable;
    alike = alike;
  }

module _ {L : Type 0} (terms : List (Term L)) (lines : List Line) (first : List (Expr L)) (known : List (Option Known)) (forest : IsForest terms lines first known) where
  -- the root of a class is of the class, and a root
  root_one : (c r : ℕ) → IsRootClass first c r → IsOneClass first r c
  root_one c r (e, at, is) = let (x, at_x, own, has) = forest.home c e at in (x, e, ap (λ k. slice_get first k) (sym is) ∙ at_x, at, own)

  root_own : (c r : ℕ) → IsRootClass first c r → IsRoot first r
  root_own c r (e, at, is) = let (x, at_x, own, has) = forest.home c e at in (x, ap (λ k. slice_get first k) (sym is) ∙ at_x, own ∙ is)

  pub roots_one : (cs rs : List ℕ) → AllZip (IsRootClass first) cs rs → AllZip (IsOneClass first) rs cs
  roots_one [] [] all = tt
  roots_one [] (r ∷ rs) all = absurd all
  roots_one (c ∷ cs) [] all = absurd all
  roots_one (c ∷ cs) (r ∷ rs) all = (root_one c r all.0, roots_one cs rs all.1)

  pub roots_own : (cs rs : List ℕ) → AllZip (IsRootClass first) cs rs → All (IsRoot first) rs
  roots_own [] [] all = all_none (IsRoot first)
  roots_own [] (r ∷ rs) all = absurd all
  roots_own (c ∷ cs) [] all = absurd all
  roots_own (c ∷ cs) (r ∷ rs) all = all_more (IsRoot first) r rs (root_own c r all.0) (roots_own cs rs all.1)

  known_own : (ns cs : List ℕ) → AllZip (IsKnownIn first known) ns cs → AllZip (IsOneClass first) cs cs
  known_own [] [] all = tt
  known_own [] (c ∷ cs) all = absurd all
  known_own (n ∷ ns) [] all = absurd all
  known_own (n ∷ ns) (c ∷ cs) ((k, at_n, (a, b, at_a, at_b, one)), rest) = ((b, b, at_b, at_b, refl), known_own ns cs rest)

  -- an expression is alike itself
  pub own_alike : (i : ℕ) (e : Expr L) → slice_get first i ≡ Some e → AreAlikeOver first e e
  own_alike i e at = let (t, at_t, label, all) = forest.fits i e at in (refl, known_own t.inputs e.inputs all)

  own_tie : (joins : List Join) (i : ℕ) (e : Expr L) → slice_get first i ≡ Some e → IsTied (ups_of first) joins i i
  own_tie joins i e at = let p = class_root terms lines first known forest i e at in was (e.class, p, p)

  pub class_tie : (joins : List Join) (x y : ℕ) → IsOneClass first x y → IsTied (ups_of first) joins x y
  class_tie joins x y (a, b, at_a, at_b, same) =
      was (a.class, class_root terms lines first known forest x a at_a, subst (λ k. IsRootOf (ups_of first) y k) (sym same) (class_root terms lines first known forest y b at_b))

  module _ (old new : List (Expr L)) (entries entries' : List (Term L × ℕ)) (joins joins' : List Join) (n : ℕ) (p : IsPass lines first old entries joins n) where
    as_first : (i : ℕ) (x : Expr L) → slice_get old i ≡ Some x → (y : Expr L) × (slice_get first i ≡ Some y) × IsRenamed first y x
    as_first i x at_x =
        let (y, at_y) = got first i (subst (λ k. i < k) p.long (within old i x at_x)) in
        let (x', at_x', r) = p.stays i y at_y in
        (y, at_y, subst (IsRenamed first y) (some_is x' x (sym at_x' ∙ at_x)) r)

    class_first : (c r : ℕ) → IsRootClass old c r → IsRootClass first c r
    class_first c r (x, at_x, is) = let (y, at_y, (al, line, tree, class, home, live)) = as_first c x at_x in (y, at_y, sym class ∙ is)

    one_first : (x y : ℕ) → IsOneClass old x y → IsOneClass first x y
    one_first x y (a, b, at_a, at_b, same) =
        let (a', at_a', (al, line, tree, class_a, home, live)) = as_first x a at_a in
        let (b', at_b', (al', line', tree', class_b, home', live')) = as_first y b at_b in
        (a', b', at_a', at_b', sym class_a ∙ same ∙ class_b)

    at_first : (e : Expr L) → slice_get old n ≡ Some e → slice_get first n ≡ Some e
    at_first e at = sym (p.rest n (omega arith)) ∙ at

    -- one that is not there stays as it is
    pub pass_gone : (e : Expr L) → slice_get old n ≡ Some e → e.live ≡ false → IsPass lines first old entries joins (n + 1)
    pass_gone e at gone =
        let never : e.live ≡ true → ⊥ = λ h. true≢false (sym h ∙ gone) in
        pass_next lines first old old entries entries joins joins n p e e (at_first e at) refl at (λ i o. refl)
        (own_alike n e (at_first e at), refl, refl, refl, refl, λ h. h)
        (λ h. absurd (never h)) (
          λ i x low at_x live. elim (below_or i n low) [
            | inl h ↦ p.indexed.0 i x h at_x live
            | inr s ↦ absurd (never (ap (λ (z : Expr L). z.live) (some_is e x (sym at ∙ ap (λ k. slice_get old k) (sym s) ∙ at_x)) ∙ live))
          ],
          λ key i h. let (low, x) = p.indexed.1 key i h in (omega (arith, low), x),
        )
        (λ i a low at_a live_a live label inputs. never live) (λ h. absurd (never h)) (λ x y t. t) p.joinable p.alike

    module _ (key : Term L) (e : Expr L) (at : slice_get old n ≡ Some e) (is_label : key.label ≡ e.label) (all : AllZip (IsRootClass old) e.inputs key.inputs) where
      all_first : AllZip (IsRootClass first) e.inputs key.inputs
      all_first = zip_map (IsRootClass old) (IsRootClass first) class_first e.inputs key.inputs all

      alike_key : AllZip (IsOneClass first) key.inputs e.inputs
      alike_key = roots_one e.inputs key.inputs all_first

      key_is : (b : Bool) → key ≡ term (renamed e key.inputs b).label (renamed e key.inputs b).inputs
      key_is b = ap (λ l. term l key.inputs) is_label

      -- one whose key is new is indexed
      pub pass_kept : IsAbsent entries key → entries' ≡ entries ++ (key, n) ∷ [] → new ≡ slice_set old n (renamed e key.inputs true) → e.live ≡ true → IsPass lines first new entries' joins (n + 1)
      pass_kept absent is_entries is live =
          let e' : Expr L = renamed e key.inputs true in
          let at_n : slice_get new n ≡ Some e' = ap (λ w. slice_get w n) is ∙ set_same old n e e' at in
          let other : (i : ℕ) → (n ≡ i → ⊥) → slice_get new i ≡ slice_get old i = λ i o. ap (λ w. slice_get w i) is ∙ set_other old n i e' o in
          let before : (i : ℕ) → i < n → slice_get new i ≡ slice_get old i = λ i low. other i (λ s. let b : ⊥ = omega (arith, s, low) in b) in
          pass_next lines first old new entries entries' joins joins n p e e' (at_first e at) (ap (λ w. length w) is ∙ length_set old n e') at_n other
          ((refl, alike_key), refl, refl, refl, refl, λ h. live)
          (λ h. roots_own e.inputs key.inputs all_first) (
            λ i x low at_x live_x. subst (λ w. IsEntry w (term x.label x.inputs) i) (sym is_entries) (elim (below_or i n low) [
              | inl h ↦ let (m, at_m) = p.indexed.0 i x h (sym (before i h) ∙ at_x) live_x in (m, front entries ((key, n) ∷ []) m (term x.label x.inputs, i) at_m)
              | inr s ↦
                  let same : e' ≡ x = some_is e' x (sym at_n ∙ ap (λ k. slice_get new k) (sym s) ∙ at_x) in
                  (length entries, last entries (key, n) ∙ (λ j. Some ((key_is true ∙ ap (λ (z : Expr L). term z.label z.inputs) same) j, sym s j)))
            ]),
            λ k i (m, at_m). elim (at_end entries (key, n) m (k, i) (ap (λ w. slice_get w m) (sym is_entries) ∙ at_m)) [
              | inl h ↦ let (low, (x, at_x, live_x, k_is)) = p.indexed.1 k i (m, h) in (omega (arith, low), (x, before i low ∙ at_x, live_x, k_is))
              | inr h ↦
                  let same_k : key ≡ k = ap (λ (q : Term L × ℕ). q.0) h.0 in let same_n : n ≡ i = ap (λ (q : Term L × ℕ). q.1) h.0 in
                  (omega (arith, same_n), (e', ap (λ q. slice_get new q) (sym same_n) ∙ at_n, refl, sym same_k ∙ key_is true))
            ],
          )
          (λ i a low at_a live_a live' label inputs.
          absent i (subst (λ k. IsEntry entries k i) ((λ j. term (label j) (inputs j)) ∙ sym (key_is true)) (p.indexed.0 i a low (sym (before i low) ∙ at_a) live_a)))
          (λ h. (n, omega arith, e', at_n, refl, (refl, alike_key), own_tie joins n e (at_first e at)))
          (λ x y t. t) p.joinable p.alike

      -- one whose key is there goes, and is to be joined
      pub pass_gone_now : (f : ℕ) → IsEntry entries key f → entries' ≡ entries → new ≡ slice_set old n (renamed e key.inputs false) → e.live ≡ true → IsNoted lines new joins joins' f n → IsPass lines first new entries' joins' (n + 1)
      pass_gone_now f entry is_entries is live noted =
          let e' : Expr L = renamed e key.inputs false in
          let at_n : slice_get new n ≡ Some e' = ap (λ w. slice_get w n) is ∙ set_same old n e e' at in
          let other : (i : ℕ) → (n ≡ i → ⊥) → slice_get new i ≡ slice_get old i = λ i o. ap (λ w. slice_get w i) is ∙ set_other old n i e' o in
          let before : (i : ℕ) → i < n → slice_get new i ≡ slice_get old i = λ i low. other i (λ s. let b : ⊥ = omega (arith, s, low) in b) in
          let never : false ≡ true → ⊥ = λ h. true≢false (sym h) in
          let (low_f, (x, at_f, live_f, key_f)) = p.indexed.1 key f entry in
          let (y, at_y, renamed_f) = as_first f x at_f in
          let alike_f : AreAlikeOver first x e = (
            sym (ap (λ (k : Term L). k.label) key_f) ∙ is_label,
            subst (λ ns. AllZip (IsOneClass first) ns e.inputs) (ap (λ (k : Term L). k.inputs) key_f) alike_key,
          ) in
          let alike_y : AreAlikeOver first y e = (
            sym renamed_f.0.0 ∙ alike_f.0,
            classes_trans first y.inputs x.inputs e.inputs (classes_sym first x.inputs y.inputs renamed_f.0.1) alike_f.1,
          ) in
          let note = noted_first new f y e at_y (at_first e at) alike_y (λ i a at_a. elim (same_or n i) [
            | inl s ↦ (e, ap (λ k. slice_get first k) (sym s) ∙ at_first e at, ap (λ (z : Expr L). z.tree) ((some_is e' a (sym at_n ∙ ap (λ k. slice_get new k) s ∙ at_a))), ap (λ (z : Expr L). z.class) ((some_is e' a (sym at_n ∙ ap (λ k. slice_get new k) s ∙ at_a))))
            | inr o ↦ let (b, at_b, (al, line, tree, class, home, live_b)) = as_first i a (sym (other i o) ∙ at_a) in (b, at_b, sym tree, sym class)
          ]) noted in
          pass_next lines first old new entries entries' joins joins' n p e e' (at_first e at) (ap (λ w. length w) is ∙ length_set old n e') at_n other
          ((refl, alike_key), refl, refl, refl, refl, λ h. live)
          (λ h. absurd (never h)) (
            λ i z low at_z live_z. subst (λ w. IsEntry w (term z.label z.inputs) i) (sym is_entries) (elim (below_or i n low) [
              | inl h ↦ p.indexed.0 i z h (sym (before i h) ∙ at_z) live_z
              | inr s ↦ absurd (never (ap (λ (w : Expr L). w.live) (some_is e' z (sym at_n ∙ ap (λ k. slice_get new k) (sym s) ∙ at_z)) ∙ live_z))
            ]),
            λ k i h. let (low, (z, at_z, live_z, k_is)) = p.indexed.1 k i (subst (λ w. IsEntry w k i) is_entries h) in (omega (arith, low), (z, before i low ∙ at_z, live_z, k_is)),
          )
          (λ i a low at_a live_a live' label inputs. never live')
          (λ h. (f, omega (arith, low_f), x, before f low_f ∙ at_f, live_f, alike_f, note.0))
          note.1 note.2 note.3
        where
          noted_first : (now : List (Expr L)) (f : ℕ) (y e : Expr L) → slice_get first f ≡ Some y → slice_get first n ≡ Some e → AreAlikeOver first y e
              → ((i : ℕ) (a : Expr L) → slice_get now i ≡ Some a → (b : Expr L) × (slice_get first i ≡ Some b) × (b.tree ≡ a.tree) × (b.class ≡ a.class)) → IsNoted lines now joins joins' f n
              → IsTied (ups_of first) joins' f n × ((x y : ℕ) → IsTied (ups_of first) joins x y → IsTied (ups_of first) joins' x y) × AreJoinable lines first joins'
              × ((m : ℕ) (j : Join) (a b : Expr L) → slice_get joins' m ≡ Some j → slice_get first j.left ≡ Some a → slice_get first j.right ≡ Some b → AreAlikeOver first a b)
          noted_first now f y e at_y at_e al back (inl (is, (a, b, at_a, at_b, same))) =
              let (a', at_a', tree_a, class_a) = back f a at_a in
              let (b', at_b', tree_b, class_b) = back n b at_b in (
                class_tie joins' f n (a', b', at_a', at_b', class_a ∙ same ∙ sym class_b),
                λ x z t. subst (λ w. IsTied (ups_of first) w x z) (sym is) t,
                subst (AreJoinable lines first) (sym is) p.joinable,
                λ m j u v at_j. p.alike m j u v (ap (λ w. slice_get w m) (sym is) ∙ at_j),
              )
          noted_first now f y e at_y at_e al back (inr (j, is, left, right, (a, b, at_a, at_b, has))) =
              let (a', at_a', tree_a, class_a) = back f a at_a in
              let (b', at_b', tree_b, class_b) = back n b at_b in
              let at_j : slice_get joins' (length joins) ≡ Some j = ap (λ w. slice_get w (length joins)) is ∙ last joins j in (
                subst (λ k. IsTied (ups_of first) joins' k n) left (subst (λ k. IsTied (ups_of first) joins' j.left k) right (joined j (length joins) at_j)),
                λ x z t. subst (λ w. IsTied (ups_of first) w x z) (sym is) (tied_more first joins (j ∷ []) t),
                (λ m k at_k. elim (at_end joins j m k (ap (λ w. slice_get w m) (sym is) ∙ at_k)) [
                  | inl h ↦ p.joinable m k h
                  | inr h ↦ subst (λ (q : Join). (u v : Expr L) × (slice_get first q.left ≡ Some u) × (slice_get first q.right ≡ Some v) × HasLine lines q.line u.tree v.tree) h.0
                      (a', b', ap (λ k. slice_get first k) left ∙ at_a', ap (λ k. slice_get first k) right ∙ at_b', subst (λ t. HasLine lines j.line t b'.tree) (sym tree_a) (subst (λ t. HasLine lines j.line a.tree t) (sym tree_b) has))
                ]),
                (λ m k u v at_k at_u at_v. elim (at_end joins j m k (ap (λ w. slice_get w m) (sym is) ∙ at_k)) [
                  | inl h ↦ p.alike m k u v h at_u at_v
                  | inr h ↦
                      let same_u : y ≡ u = some_is y u (sym at_y ∙ ap (λ q. slice_get first q) (sym left ∙ ap (λ (q : Join). q.left) h.0) ∙ at_u) in
                      let same_v : e ≡ v = some_is e v (sym at_e ∙ ap (λ q. slice_get first q) (sym right ∙ ap (λ (q : Join). q.right) h.0) ∙ at_v) in
                      subst (λ (z : Expr L). AreAlikeOver first z v) same_u (subst (λ (z : Expr L). AreAlikeOver first y z) same_v al)
                ]),
              )

-- terms of two expressions with the same inputs are alike
module _ {L : Type 0} (terms : List (Term L)) (lines : List Line) (exprs : List (Expr L)) (known : List (Option Known)) (forest : IsForest terms lines exprs known) where
  pub near_zip : (ms ns cs : List ℕ) → AllZip (IsKnownIn exprs known) ms cs → AllZip (IsKnownIn exprs known) ns cs → AllZip (AreNear exprs known) ms ns
  near_zip [] [] [] h k = tt
  near_zip [] [] (c ∷ cs) h k = absurd h
  near_zip [] (n ∷ ns) [] h k = absurd k
  near_zip [] (n ∷ ns) (c ∷ cs) h k = absurd h
  near_zip (m ∷ ms) [] [] h k = absurd h
  near_zip (m ∷ ms) [] (c ∷ cs) h k = absurd k
  near_zip (m ∷ ms) (n ∷ ns) [] h k = absurd h
  near_zip (m ∷ ms) (n ∷ ns) (c ∷ cs) h k = ((c, h.0, k.0), near_zip ms ns cs h.1 k.1)

  pub twins_alike : (f i : ℕ) (one other : Expr L) → slice_get exprs f ≡ Some one → slice_get exprs i ≡ Some other → AreTwins exprs f i → AreAlike terms exprs known one.tree other.tree
  twins_alike f i one other at_f at_i (a, b, at_a, at_b, label, inputs) =
      let same_a : a ≡ one = some_is a one (sym at_a ∙ at_f) in
      let same_b : b ≡ other = some_is b other (sym at_b ∙ at_i) in
      let ins : one.inputs ≡ other.inputs = ap (λ (x : Expr L). x.inputs) (sym same_a) ∙ inputs ∙ ap (λ (x : Expr L). x.inputs) same_b in
      let labels : one.label ≡ other.label = ap (λ (x : Expr L). x.label) (sym same_a) ∙ label ∙ ap (λ (x : Expr L). x.label) same_b in
      let (s, at_s, label_s, all_s) = forest.fits f one at_f in
      let (t, at_t, label_t, all_t) = forest.fits i other at_i in
      (s, t, at_s, at_t, label_s ∙ labels ∙ sym label_t, near_zip s.inputs t.inputs other.inputs (subst (λ ns. AllZip (IsKnownIn exprs known) s.inputs ns) ins all_s) all_t)

-- nothing is passed yet
pub pass_none : {L : Type 0} (terms : List (Term L)) (lines : List Line) (first : List (Expr L)) (known : List (Option Known)) → IsForest terms lines first known → IsPass lines first first [] [] 0
pass_none terms lines first known forest = record {
  long = refl;
  stays = λ i e at. (e, at, (own_alike terms lines first known forest i e at, refl, refl, refl, refl, λ h. h));
  rest = λ i high. refl;
  roots = λ i e low. let b : ⊥ = omega (arith, low) in absurd b;
  indexed = (λ i e low. let b : ⊥ = omega (arith, low) in absurd b, λ key i (m, at). cc);
  apart = λ i j a b low. let n : ⊥ = omega (arith, low) in absurd n;
  covered = λ i e low. let b : ⊥ = omega (arith, low) in absurd b;
  joinable = λ n j at. cc;
  alike = λ m j a b at. cc;
}

pub pass_grew : {L S : Type 0} (old new : LogValue L S) (first now : List (Expr L)) (entries : List (Term L × ℕ)) (joins : List Join) (n : ℕ) → Grew old new → IsPass old.lines first now entries joins n → IsPass new.lines first now entries joins n
pass_grew old new first now entries joins n g p = record {
  long = p.long;
  stays = p.stays;
  rest = p.rest;
  roots = p.roots;
  indexed = p.indexed;
  apart = p.apart;
  covered = p.covered;
  joinable = λ m j at. let (a, b, at_a, at_b, has) = p.joinable m j at in (a, b, at_a, at_b, line_still old new j.line a.tree b.tree g has);
  alike = p.alike;
}

-- one expression more is passed, whatever becomes of it
pub pass_step : {L : Type 0} (terms : List (Term L)) (lines : List Line) (first old new : List (Expr L)) (known : List (Option Known)) (entries entries' : List (Term L × ℕ)) (joins joins' : List Join) (n : ℕ) → IsForest terms lines first known
    → IsPass lines first old entries joins n → IsReindexed lines old new entries entries' joins joins' n → IsPass lines first new entries' joins' (n + 1)
pass_step {L} terms lines first old new known entries entries' joins joins' n forest p (e, at, inl (gone, is, is_e, is_j)) =
    subst (λ w. IsPass lines first w entries' joins' (n + 1)) (sym is) (subst (λ w. IsPass lines first old w joins' (n + 1)) (sym is_e) (subst (λ w. IsPass lines first old entries w (n + 1)) (sym is_j)
    (pass_gone terms lines first known forest old new entries entries' joins joins' n p e at gone)))
pass_step {L} terms lines first old new known entries entries' joins joins' n forest p (e, at, inr (live, (key, found, (e', at', label, all), enters, becomes))) = by found enters becomes
  where
    same : e' ≡ e
    same = some_is e' e (sym at' ∙ at)

    label_e : key.label ≡ e.label
    label_e = label ∙ ap (λ (x : Expr L). x.label) same

    all_e : AllZip (IsRootClass old) e.inputs key.inputs
    all_e = subst (λ (x : Expr L). AllZip (IsRootClass old) x.inputs key.inputs) same all

    by : (r : Option ℕ) → Enters entries entries' key n r
        → MatchOption r ((new ≡ slice_set old n (renamed e key.inputs true)) × (joins' ≡ joins)) (λ f. (new ≡ slice_set old n (renamed e key.inputs false)) × IsNoted lines new joins joins' f n) → IsPass lines first new entries' joins' (n + 1)
    by None (is_e, absent) (is, is_j) =
        subst (λ w. IsPass lines first new entries' w (n + 1)) (sym is_j) (pass_kept terms lines first known forest old new entries entries' joins joins' n p key e at label_e all_e absent is_e is live)
    by (Some f) (is_e, entry) (is, noted) = pass_gone_now terms lines first known forest old new entries entries' joins joins' n p key e at label_e all_e f entry is_e is live noted

-- a forest stays one where an expression's inputs are renamed
module _ {L : Type 0} (terms : List (Term L)) (lines : List Line) (old new : List (Expr L)) (known : List (Option Known)) (n : ℕ) (e : Expr L) (cs : List ℕ) (b : Bool) (at : slice_get old n ≡ Some e)
    (is : new ≡ slice_set old n (renamed e cs b)) (all : AllZip (IsRootClass old) e.inputs cs) (forest : IsForest terms lines old known) where
  -- the same but for the inputs
  abbrev IsLike : Expr L → Expr L → Type 0
  IsLike x z = (z.label ≡ x.label) × (z.line ≡ x.line) × (z.tree ≡ x.tree) × (z.class ≡ x.class) × (z.home ≡ x.home)

  at_now : slice_get new n ≡ Some (renamed e cs b)
  at_now = ap (λ w. slice_get w n) is ∙ set_same old n e (renamed e cs b) at

  at_else : (i : ℕ) → (n ≡ i → ⊥) → slice_get new i ≡ slice_get old i
  at_else i o = ap (λ w. slice_get w i) is ∙ set_other old n i (renamed e cs b) o

  like : (i : ℕ) (x : Expr L) → slice_get old i ≡ Some x → (z : Expr L) × (slice_get new i ≡ Some z) × IsLike x z × (((n ≡ i) × (z ≡ renamed e cs b) × (x ≡ e)) ⊎ (z ≡ x))
  like i x at_x = elim (same_or n i) [
    | inl s ↦
        let same : e ≡ x = some_is e x (sym at ∙ ap (λ k. slice_get old k) s ∙ at_x) in
        (renamed e cs b, ap (λ k. slice_get new k) (sym s) ∙ at_now, (ap (λ (y : Expr L). y.label) same, ap (λ (y : Expr L). y.line) same, ap (λ (y : Expr L). y.tree) same, ap (λ (y : Expr L). y.class) same, ap (λ (y : Expr L). y.home) same), inl (s, refl, sym same))
    | inr o ↦ (x, at_else i o ∙ at_x, (refl, refl, refl, refl, refl), inr refl)
  ]

  unlike : (i : ℕ) (z : Expr L) → slice_get new i ≡ Some z → (x : Expr L) × (slice_get old i ≡ Some x) × IsLike x z × (((n ≡ i) × (z ≡ renamed e cs b) × (x ≡ e)) ⊎ (z ≡ x))
  unlike i z at_z =
      let (x, at_x) = got old i (subst (λ k. i < k) (ap (λ w. length w) is ∙ length_set old n (renamed e cs b)) (within new i z at_z)) in
      let (z', at_z', l, how) = like i x at_x in
      let same : z' ≡ z = some_is z' z (sym at_z' ∙ at_z) in
      (x, at_x, subst (IsLike x) same l, subst (λ (y : Expr L). ((n ≡ i) × (y ≡ renamed e cs b) × (x ≡ e)) ⊎ (y ≡ x)) same how)

  one_on : (x y : ℕ) → IsOneClass old x y → IsOneClass new x y
  one_on x y (a, c, at_a, at_c, same) =
      let (a', at_a', (la, li, tr, class_a, ho), how) = like x a at_a in
      let (c', at_c', (lb, lj, ts, class_c, hp), how') = like y c at_c in
      (a', c', at_a', at_c', class_a ∙ same ∙ sym class_c)

  known_on : (m c : ℕ) → IsKnownIn old known m c → IsKnownIn new known m c
  known_on m c (k, at_k, one) = (k, at_k, one_on k.expr c one)

  known_root : (ms ds rs : List ℕ) → AllZip (IsKnownIn old known) ms ds → AllZip (IsRootClass old) ds rs → AllZip (IsKnownIn new known) ms rs
  known_root [] [] [] h r = tt
  known_root [] [] (x ∷ rs) h r = absurd r
  known_root [] (d ∷ ds) rs h r = absurd h
  known_root (m ∷ ms) [] rs h r = absurd h
  known_root (m ∷ ms) (d ∷ ds) [] h r = absurd r
  known_root (m ∷ ms) (d ∷ ds) (x ∷ rs) ((k, at_k, one), hs) (r, rr) =
      ((k, at_k, one_on k.expr x (class_trans old k.expr d x one (class_sym old x d (root_one terms lines old known forest d x r)))), known_root ms ds rs hs rr)

  fits_on : (i m : ℕ) (x z : Expr L) → IsLike x z → ((n ≡ i) × (z ≡ renamed e cs b) × (x ≡ e)) ⊎ (z ≡ x) → Fits old known terms m x → Fits new known terms m z
  fits_on i m x z l (inl (s, is_z, is_x)) (t, at_t, label, zip) =
      (t, at_t, label ∙ sym l.0, subst (λ (y : Expr L). AllZip (IsKnownIn new known) t.inputs y.inputs) (sym is_z) (known_root t.inputs e.inputs cs (subst (λ (y : Expr L). AllZip (IsKnownIn old known) t.inputs y.inputs) is_x zip) all))
  fits_on i m x z l (inr is_z) (t, at_t, label, zip) =
      (t, at_t, label ∙ sym l.0, subst (λ (y : Expr L). AllZip (IsKnownIn new known) t.inputs y.inputs) (sym is_z) (zip_map (IsKnownIn old known) (IsKnownIn new known) known_on t.inputs x.inputs zip))

  pub forest_renamed : IsForest terms lines new known
  forest_renamed = record {
    older = λ i z at_z. let (x, at_x, l, how) = unlike i z at_z in subst (λ k. k ≤ i) (sym l.3) (forest.older i x at_x);
    home = λ i z at_z.
        let (x, at_x, (la, li, tree, class, home), how) = unlike i z at_z in
        let (r, at_r, own, has) = forest.home i x at_x in
        let (r', at_r', (lb, lj, tree_r, class_r, hr), how') = like x.class r at_r in
        (r', ap (λ k. slice_get new k) class ∙ at_r', class_r ∙ own ∙ sym class, subst (λ k. HasLine lines k z.tree r'.tree) (sym home) (subst (λ k. HasLine lines x.home k r'.tree) (sym tree) (subst (λ k. HasLine lines x.home x.tree k) (sym tree_r) has)));
    ends = λ i z at_z. let (x, at_x, (la, line, tree, class, home), how) = unlike i z at_z in let (l, at_l, right) = forest.ends i x at_x in (l, ap (λ k. slice_get lines k) line ∙ at_l, right ∙ sym tree);
    fits = λ i z at_z. let (x, at_x, l, how) = unlike i z at_z in subst (λ k. Fits new known terms k z) (sym l.2) (fits_on i x.tree x z l how (forest.fits i x at_x));
    seen = λ m k at_m.
        let (x, at_x, has, fits) = forest.seen m k at_m in
        let (z, at_z, l, how) = like k.expr x at_x in
        (z, at_z, subst (λ t. HasLine lines k.line m t) (sym l.2) has, fits_on k.expr m x z l how fits);
  }

-- the input classes of an expression are there
module _ {L : Type 0} (terms : List (Term L)) (lines : List Line) (exprs : List (Expr L)) (known : List (Option Known)) (forest : IsForest terms lines exprs known) where
  pub known_there : (ns cs : List ℕ) → AllZip (IsKnownIn exprs known) ns cs → All (λ c. c < length exprs) cs
  known_there [] [] all = all_none (λ c. c < length exprs)
  known_there [] (c ∷ cs) all = absurd all
  known_there (n ∷ ns) [] all = absurd all
  known_there (n ∷ ns) (c ∷ cs) ((k, at_n, (a, b, at_a, at_b, one)), rest) = all_more (λ x. x < length exprs) c cs (within exprs c b at_b) (known_there ns cs rest)

  pub inputs_there : (i : ℕ) (e : Expr L) → slice_get exprs i ≡ Some e → All (λ c. c < length exprs) e.inputs
  inputs_there i e at = let (t, at_t, label, all) = forest.fits i e at in known_there t.inputs e.inputs all
