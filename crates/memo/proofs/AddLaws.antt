-- One expression more, or one join more.
use Rattle.std.proofs.Common.{◌≡◌, ℕ, suc, ◌<◌, ◌≤◌, true, List, [], ◌∷◌, ◌++◌, Option, Some, length, slice_get, refl, ap, sym, ◌∙◌, subst, arith, inl, inr}
use Rattle.std.specs.Prelude.{◌⊎◌, All}
use Rattle.std.specs.List.{AllZip}
use Rattle.derivation.specs.Table.{term}
use Rattle.derivation.specs.declared.reason.Line.{Line}
use Rattle.derivation.specs.declared.terms.Term.{Term}
use Rattle.derivation.proofs.TableLaws.{at_end}
use Rattle.derivation.proofs.StandsLaws.{keeps_of_take}
use Rattle.memo.specs.declared.expr.Expr.{Expr}
use Rattle.memo.specs.declared.expr.Known.{Known}
use Rattle.memo.specs.declared.expr.Join.{Join}
use Rattle.memo.specs.Adding.{IsFit, IsKeyIn, IsPut, IsAlikeIn, IsNew, AddsExpr, IsJoinAt, IsJoinOf}
use Rattle.memo.specs.Forest.{HasLine, EndsAt, IsOneClass, IsKnownIn, Fits, HasHome, IsForest}
use Rattle.memo.specs.Index.{IsEntry, IsAbsent}
use Rattle.memo.specs.Kept.{IsRoot, Indexes, AreApart, IsMemo}
use Rattle.memo.specs.Learn.{IsFact, AreHomed}
use Rattle.memo.specs.Grew.{Grew, Turns, Chains}
use Rattle.memo.proofs.GrewLaws.{line_still, grew_trans}
use Rattle.derivation.specs.Log.{LogValue}
use Rattle.memo.specs.Memos.{MemoValue, Adds, Notes}
use Rattle.memo.specs.Merge.{AreJoinable}
use Rattle.memo.proofs.KeepLaws.{zip_map}
use Rattle.memo.proofs.LeastLaws.{class_sym, class_trans, classes_sym, classes_trans}
use Rattle.memo.proofs.RebuildLaws.{front, last, roots_one, roots_own, known_there}
use Rattle.memo.proofs.SettleLaws.{all_map, same_roots}
use Rattle.memo.proofs.UnionLaws.{within}

some_is : {A : Type 0} (a b : A) → Some a ≡ Some b → a ≡ b
some_is a b e = cc

long_more : {A : Type 0} (xs : List A) (x : A) → length (xs ++ x ∷ []) ≡ suc (length xs)
long_more [] x = refl
long_more (y ∷ xs) x = ap suc (long_more xs x)

-- an expression more, which is its own class
module _ {L : Type 0} (terms : List (Term L)) (lines : List Line) (old new : List (Expr L)) (known : List (Option Known)) (e : Expr L) (is : new ≡ old ++ e ∷ []) (own : e.class ≡ length old) where
  stays : (i : ℕ) (x : Expr L) → slice_get old i ≡ Some x → slice_get new i ≡ Some x
  stays i x at = ap (λ w. slice_get w i) is ∙ front old (e ∷ []) i x at

  at_last : slice_get new (length old) ≡ Some e
  at_last = ap (λ w. slice_get w (length old)) is ∙ last old e

  was_or : (i : ℕ) (x : Expr L) → slice_get new i ≡ Some x → (slice_get old i ≡ Some x) ⊎ ((e ≡ x) × (i ≡ length old))
  was_or i x at = at_end old e i x (ap (λ w. slice_get w i) (sym is) ∙ at)

  pub one_put : (x y : ℕ) → IsOneClass old x y → IsOneClass new x y
  one_put x y (a, b, at_a, at_b, same) = (a, b, stays x a at_a, stays y b at_b, same)

  known_put : (m c : ℕ) → IsKnownIn old known m c → IsKnownIn new known m c
  known_put m c (k, at, one) = (k, at, one_put k.expr c one)

  pub fits_put : (n : ℕ) (x : Expr L) → Fits old known terms n x → Fits new known terms n x
  fits_put n x (t, at, label, zip) = (t, at, label, zip_map (IsKnownIn old known) (IsKnownIn new known) known_put t.inputs x.inputs zip)

  pub forest_put : HasLine lines e.home e.tree e.tree → EndsAt lines e.line e.tree → Fits old known terms e.tree e → IsForest terms lines old known → IsForest terms lines new known
  forest_put home ends fits f = record {
    older = λ i x at. elim (was_or i x at) [
      | inl h ↦ f.older i x h
      | inr h ↦ let low : e.class ≤ i = (let s = h.1 in omega (arith, s, own)) in subst (λ (y : Expr L). y.class ≤ i) h.0 low
    ];
    home = λ i x at. elim (was_or i x at) [
      | inl h ↦ let (r, at_r, flat, has) = f.home i x h in (r, stays x.class r at_r, flat, has)
      | inr h ↦ subst (HasHome lines new) h.0 (e, ap (λ k. slice_get new k) own ∙ at_last, refl, home)
    ];
    ends = λ i x at. elim (was_or i x at) [ inl h ↦ f.ends i x h | inr h ↦ subst (λ (y : Expr L). EndsAt lines y.line y.tree) h.0 ends ];
    fits = λ i x at. elim (was_or i x at) [ inl h ↦ fits_put x.tree x (f.fits i x h) | inr h ↦ subst (λ (y : Expr L). Fits new known terms y.tree y) h.0 (fits_put e.tree e fits) ];
    seen = λ n k at. let (x, at_x, has, fit) = f.seen n k at in (x, stays k.expr x at_x, has, fits_put n x fit);
  }

  -- the tree of the new expression may be noted as a tree of it
  pub put_fact : HasLine lines e.home e.tree e.tree → Fits old known terms e.tree e → IsFact terms lines new known e.tree (record { expr = e.class; line = e.home })
  put_fact home fits = (e, ap (λ k. slice_get new k) own ∙ at_last, home, fits_put e.tree e fits)

-- what a label over classes leads to
module _ {L : Type 0} (terms : List (Term L)) (lines : List Line) (exprs : List (Expr L)) (known : List (Option Known)) (forest : IsForest terms lines exprs known) (label : L) (classes : List ℕ) (key : Term L) (is_key : IsKeyIn exprs label classes key) where
  known_roots : (ns cs rs : List ℕ) → AllZip (IsKnownIn exprs known) ns cs → AllZip (IsOneClass exprs) rs cs → AllZip (IsKnownIn exprs known) ns rs
  known_roots [] [] [] h r = tt
  known_roots [] [] (x ∷ rs) h r = absurd r
  known_roots [] (c ∷ cs) rs h r = absurd h
  known_roots (n ∷ ns) [] rs h r = absurd h
  known_roots (n ∷ ns) (c ∷ cs) [] h r = absurd r
  known_roots (n ∷ ns) (c ∷ cs) (x ∷ rs) ((k, at, one), hs) (r, rr) = ((k, at, class_trans exprs k.expr c x one (class_sym exprs x c r)), known_roots ns cs rs hs rr)

  key_one : AllZip (IsOneClass exprs) key.inputs classes
  key_one = roots_one terms lines exprs known forest classes key.inputs is_key.1

  key_roots : All (IsRoot exprs) key.inputs
  key_roots = roots_own terms lines exprs known forest classes key.inputs is_key.1

  pub fit_key : (n : ℕ) → IsFit terms exprs known n label classes → IsFit terms exprs known n label key.inputs
  fit_key n (t, at, is, zip) = (t, at, is, known_roots t.inputs classes key.inputs zip key_one)

  module _ (entries : List (Term L × ℕ)) (joins : List Join) (indexed : Indexes entries exprs (length exprs)) where
    pub found_there : (f : ℕ) → IsEntry entries key f → f < length exprs
    found_there f entry = let (low, rest) = indexed.1 key f entry in low

    pub found_alike : (f : ℕ) → IsEntry entries key f → IsAlikeIn exprs label classes f
    found_alike f entry =
        let (low, (x, at, live, same)) = indexed.1 key f entry in
        (x, at, live, sym (ap (λ (k : Term L). k.label) same) ∙ is_key.0, subst (λ ns. AllZip (IsOneClass exprs) ns classes) (ap (λ (k : Term L). k.inputs) same) key_one)

    pub none_alike : ((i : ℕ) (e : Expr L) → slice_get exprs i ≡ Some e → e.live ≡ true → All (IsRoot exprs) e.inputs) → IsAbsent entries key → (i : ℕ) → IsAlikeIn exprs label classes i → ⊥
    none_alike canonical absent i (x, at, live, is_l, zip) =
        let zipped : AllZip (IsOneClass exprs) x.inputs key.inputs = classes_trans exprs x.inputs classes key.inputs zip (classes_sym exprs key.inputs classes key_one) in
        let inputs : x.inputs ≡ key.inputs = same_roots exprs x.inputs key.inputs (canonical i x at live) key_roots zipped in
        let labels : x.label ≡ key.label = is_l ∙ sym is_key.0 in
        let same : term x.label x.inputs ≡ key = (λ j. term (labels j) (inputs j)) in
        absent i (subst (λ (k : Term L). IsEntry entries k i) same (indexed.0 i x (within exprs i x at) at live))

-- the memo with an expression more
module _ {L : Type 0} (terms : List (Term L)) (lines : List Line) (old new : List (Expr L)) (known : List (Option Known)) (entries entries' : List (Term L × ℕ)) (label : L) (classes : List ℕ) (key : Term L) (line tree : ℕ) where
  pub is_new : IsMemo terms lines old known entries [] → IsKeyIn old label classes key → IsAbsent entries key → IsPut old new label key.inputs line tree → IsNew old new label classes line
  is_new memo is_key absent (e, is, own, is_l, ins, is_line, is_tree, live) = (
    e,
    is,
    own,
    is_l,
    subst (λ ns. AllZip (IsOneClass old) ns classes) (sym ins) (roots_one terms lines old known memo.forest classes key.inputs is_key.1),
    is_line,
    live,
    none_alike terms lines old known memo.forest label classes key is_key entries [] memo.indexed memo.canonical absent,
  )

  module _ (terms' : List (Term L)) (lines' : List Line) (known' : List (Option Known)) (memo : IsMemo terms lines old known entries []) (is_key : IsKeyIn old label classes key) (absent : IsAbsent entries key) (e : Expr L) (is : new ≡ old ++ e ∷ [])
      (own : e.class ≡ length old) (is_l : e.label ≡ label) (ins : e.inputs ≡ key.inputs) (live : e.live ≡ true) (enters : entries' ≡ entries ++ (key, length old) ∷ []) (forest : IsForest terms' lines' new known') where
    up : (i : ℕ) (x : Expr L) → slice_get old i ≡ Some x → slice_get new i ≡ Some x
    up i x at = stays terms lines old new known e is own i x at

    was : (i : ℕ) (x : Expr L) → slice_get new i ≡ Some x → (slice_get old i ≡ Some x) ⊎ ((e ≡ x) × (i ≡ length old))
    was i x at = was_or terms lines old new known e is own i x at

    end : slice_get new (length old) ≡ Some e
    end = at_last terms lines old new known e is own

    long : length new ≡ suc (length old)
    long = ap (λ w. length w) is ∙ long_more old e

    key_is : key ≡ term e.label e.inputs
    key_is = let labels : key.label ≡ e.label = is_key.0 ∙ sym is_l in let inputs : key.inputs ≡ e.inputs = sym ins in (λ j. term (labels j) (inputs j))

    entry_up : (k : Term L) (i : ℕ) → IsEntry entries k i → IsEntry entries' k i
    entry_up k i (n, at) = (n, ap (λ w. slice_get w n) enters ∙ front entries ((key, length old) ∷ []) n (k, i) at)

    entry_end : IsEntry entries' key (length old)
    entry_end = (length entries, ap (λ w. slice_get w (length entries)) enters ∙ last entries (key, length old))

    entry_was : (k : Term L) (i : ℕ) → IsEntry entries' k i → IsEntry entries k i ⊎ ((key ≡ k) × (i ≡ length old))
    entry_was k i (n, at) = elim (at_end entries (key, length old) n (k, i) (ap (λ w. slice_get w n) (sym enters) ∙ at)) [
      | inl h ↦ inl (n, h)
      | inr h ↦ inr (ap (λ (p : Term L × ℕ). p.0) h.0, sym (ap (λ (p : Term L × ℕ). p.1) h.0))
    ]

    indexed_up : Indexes entries' new (length new)
    indexed_up = (
      λ i x low at live_x. elim (was i x at) [
        | inl h ↦ entry_up (term x.label x.inputs) i (memo.indexed.0 i x (within old i x h) h live_x)
        | inr h ↦ subst (λ n. IsEntry entries' (term x.label x.inputs) n) (sym h.1) (subst (λ (k : Term L). IsEntry entries' k (length old)) (key_is ∙ ap (λ (y : Expr L). term y.label y.inputs) h.0) entry_end)
      ],
      λ k i entry. elim (entry_was k i entry) [
        | inl h ↦
            let (low, (x, at, live_x, same)) = memo.indexed.1 k i h in
            (omega (arith, low, long), (x, up i x at, live_x, same))
        | inr h ↦ let s = h.1 in (omega (arith, s, long), (e, ap (λ n. slice_get new n) s ∙ end, live, sym h.0 ∙ key_is))
      ],
    )

    twin : (i : ℕ) (x : Expr L) → slice_get old i ≡ Some x → x.live ≡ true → x.label ≡ e.label → x.inputs ≡ e.inputs → ⊥
    twin i x at live_x labels inputs =
        let same : term x.label x.inputs ≡ key = (λ j. term (labels j) (inputs j)) ∙ sym key_is in
        absent i (subst (λ (k : Term L). IsEntry entries k i) same (memo.indexed.0 i x (within old i x at) at live_x))

    apart_up : AreApart new (length new)
    apart_up i j a b low low' at_a at_b live_a live_b labels inputs = by (was i a at_a) (was j b at_b)
      where
        by : (slice_get old i ≡ Some a) ⊎ ((e ≡ a) × (i ≡ length old)) → (slice_get old j ≡ Some b) ⊎ ((e ≡ b) × (j ≡ length old)) → i ≡ j
        by (inl h) (inl k) = memo.apart i j a b (within old i a h) (within old j b k) h k live_a live_b labels inputs
        by (inl h) (inr k) = absurd (twin i a h live_a (labels ∙ ap (λ (y : Expr L). y.label) (sym k.0)) (inputs ∙ ap (λ (y : Expr L). y.inputs) (sym k.0)))
        by (inr h) (inl k) = absurd (twin j b k live_b (sym labels ∙ ap (λ (y : Expr L). y.label) (sym h.0)) (sym inputs ∙ ap (λ (y : Expr L). y.inputs) (sym h.0)))
        by (inr h) (inr k) = h.1 ∙ sym k.1

    root_up : (c : ℕ) → IsRoot old c → IsRoot new c
    root_up c (x, at, own_x) = (x, up c x at, own_x)

    pub memo_put : IsMemo terms' lines' new known' entries' []
    memo_put = record {
      forest = forest;
      indexed = indexed_up;
      apart = apart_up;
      canonical = λ i x at live_x. elim (was i x at) [
        | inl h ↦ all_map (IsRoot old) (IsRoot new) root_up x.inputs (memo.canonical i x h live_x)
        | inr h ↦ subst (λ (y : Expr L). All (IsRoot new) y.inputs) h.0 (subst (λ ns. All (IsRoot new) ns) (sym ins) (all_map (IsRoot old) (IsRoot new) root_up key.inputs (roots_own terms lines old known memo.forest classes key.inputs is_key.1)))
      ];
      complete = λ i x at. elim (was i x at) [
        | inl h ↦
            let (j, f, at_f, live_f, labels, zip, one) = memo.complete i x h in
            (j, f, up j f at_f, live_f, labels, zip_map (IsOneClass old) (IsOneClass new) (one_put terms lines old new known e is own) f.inputs x.inputs zip, one_put terms lines old new known e is own j i one)
        | inr h ↦
            let roots : AllZip (IsOneClass old) key.inputs classes = roots_one terms lines old known memo.forest classes key.inputs is_key.1 in
            let twice : AllZip (IsOneClass old) key.inputs key.inputs = classes_trans old key.inputs classes key.inputs roots (classes_sym old key.inputs classes roots) in
            let zip : AllZip (IsOneClass new) e.inputs e.inputs = subst (λ ns. AllZip (IsOneClass new) ns ns) (sym ins) (zip_map (IsOneClass old) (IsOneClass new) (one_put terms lines old new known e is own) key.inputs key.inputs twice) in (
              length old,
              e,
              end,
              live,
              ap (λ (y : Expr L). y.label) h.0,
              subst (λ (y : Expr L). AllZip (IsOneClass new) e.inputs y.inputs) h.0 zip,
              (e, x, end, at, ap (λ (y : Expr L). y.class) h.0),
            )
      ];
      joinable = λ n j at. cc;
    }

-- a memo with its joins left out, and with them again
module _ {L : Type 0} (terms : List (Term L)) (lines : List Line) (exprs : List (Expr L)) (known : List (Option Known)) (entries : List (Term L × ℕ)) (joins joins' : List Join) where
  pub rejoined : AreJoinable lines exprs joins' → IsMemo terms lines exprs known entries joins → IsMemo terms lines exprs known entries joins'
  rejoined given m = record { forest = m.forest; indexed = m.indexed; apart = m.apart; canonical = m.canonical; complete = m.complete; joinable = given }

pub none_joinable : {L : Type 0} (lines : List Line) (exprs : List (Expr L)) → AreJoinable lines exprs []
none_joinable lines exprs n j at = cc

-- the class of an expression leads to its root
pub known_class : {L : Type 0} (exprs : List (Expr L)) (known : List (Option Known)) (n c class : ℕ) (e : Expr L) → AreHomed exprs → IsKnownIn exprs known n c → slice_get exprs class ≡ Some e → c ≡ e.class → IsKnownIn exprs known n class
known_class {L} exprs known n c class e homed (k, at, (a, b, at_a, at_b, one)) at_e same =
    let (r, at_r, own) = homed class e at_e in
    let roots : b ≡ r = some_is b r (sym at_b ∙ ap (λ x. slice_get exprs x) same ∙ at_r) in
    (k, at, (a, e, at_a, at_e, one ∙ ap (λ (x : Expr L). x.class) roots ∙ own))

pub ends_still : {L S : Type 0} (old new : LogValue L S) (i n : ℕ) → Grew old new → EndsAt old.lines i n → EndsAt new.lines i n
ends_still old new i n grew (l, at, right) = (l, keeps_of_take old.lines new.lines grew.lines i l at, right)

pub fit_there : {L : Type 0} (terms : List (Term L)) (lines : List Line) (exprs : List (Expr L)) (known : List (Option Known)) → IsForest terms lines exprs known → (n : ℕ) (label : L) (classes : List ℕ) → IsFit terms exprs known n label classes → All (λ c. c < length exprs) classes
fit_there terms lines exprs known forest n label classes (t, at, is, zip) = known_there terms lines exprs known forest t.inputs classes zip

-- what a term that fits is to a new expression of it
pub put_fits : {L S : Type 0} (old new : LogValue L S) (exprs : List (Expr L)) (known : List (Option Known)) (e : Expr L) → Grew old new → IsFit old.terms exprs known e.tree e.label e.inputs → Fits exprs known new.terms e.tree e
put_fits old new exprs known e grew (t, at, is, zip) = (t, keeps_of_take old.terms new.terms grew.terms e.tree t at, is, zip)

-- a line between the trees of what two terms are known to be of
pub between_made : {L S : Type 0} (old one two new : LogValue L S) (exprs : List (Expr L)) (known : List (Option Known)) (m n line back half whole : ℕ) (k l : Known) → IsForest old.terms old.lines exprs known → slice_get known m ≡ Some (Some k) → slice_get known n ≡ Some (Some l)
    → HasLine old.lines line m n → Grew old one → Grew one two → Turns old one k.line back → Chains one two back line half → Chains two new half l.line whole → IsJoinAt new.lines exprs known m n (record { left = k.expr; right = l.expr; line = whole })
between_made old one two new exprs known m n line back half whole k l forest at_m at_n has g h turns first second =
    let (x, at_x, has_x, fits_x) = forest.seen m k at_m in
    let (y, at_y, has_y, fits_y) = forest.seen n l at_n in (
      k,
      l,
      at_m,
      at_n,
      refl,
      refl,
      (
        x,
        y,
        at_x,
        at_y,
        second x.tree n y.tree (first x.tree m n (turns m x.tree has_x) (line_still old one line m n g has)) (line_still old two l.line n y.tree (grew_trans old one two g h) has_y),
      ),
    )

-- the memo with a join more
module _ {L S : Type 0} (old new : LogValue L S) (exprs : List (Expr L)) (known now : List (Option Known)) (entries : List (Term L × ℕ)) (joins joins' : List Join) (m n : ℕ) (j : Join) (made : IsJoinAt new.lines exprs now m n j) (is : joins' ≡ joins ++ j ∷ []) where
  pub memo_joined : IsMemo old.terms old.lines exprs known entries joins → Grew old new → IsForest new.terms new.lines exprs now → IsMemo new.terms new.lines exprs now entries joins'
  memo_joined memo grew forest = record {
    forest = forest;
    indexed = memo.indexed;
    apart = memo.apart;
    canonical = memo.canonical;
    complete = memo.complete;
    joinable = λ i x at. elim (at_end joins j i x (ap (λ w. slice_get w i) (sym is) ∙ at)) [
      | inl h ↦ let (a, b, at_a, at_b, has) = memo.joinable i x h in (a, b, at_a, at_b, line_still old new x.line a.tree b.tree grew has)
      | inr h ↦
          let (k, l, at_m, at_n, left, right, rest) = made in
          subst (λ (y : Join). (a b : Expr L) × (slice_get exprs y.left ≡ Some a) × (slice_get exprs y.right ≡ Some b) × HasLine new.lines y.line a.tree b.tree) h.0 rest
    ];
  }

  pub joined_of : (a b : ℕ) → IsKnownIn exprs now m a → IsKnownIn exprs now n b → IsJoinOf new.lines exprs joins joins' a b
  joined_of a b (k', at_m', one) (l', at_n', one') =
      let (k, l, at_m, at_n, left, right, rest) = made in
      let same : k' ≡ k = some_is k' k (some_is (Some k') (Some k) (sym at_m' ∙ at_m)) in
      let same' : l' ≡ l = some_is l' l (some_is (Some l') (Some l) (sym at_n' ∙ at_n)) in (
        j,
        is,
        subst (λ i. IsOneClass exprs i a) (ap (λ (x : Known). x.expr) same ∙ sym left) one,
        subst (λ i. IsOneClass exprs i b) (ap (λ (x : Known). x.expr) same' ∙ sym right) one',
        rest,
      )

-- the class of an expression is of it
pub class_of : {L : Type 0} (terms : List (Term L)) (lines : List Line) (exprs : List (Expr L)) (known : List (Option Known)) → IsForest terms lines exprs known → (i : ℕ) (e : Expr L) → slice_get exprs i ≡ Some e → IsOneClass exprs i e.class
class_of terms lines exprs known forest i e at = let (r, at_r, own, has) = forest.home i e at in (e, r, at, at_r, sym own)

-- a new expression is put and entered
pub put_all : {L : Type 0} (terms terms' : List (Term L)) (lines lines' : List Line) (old new : List (Expr L)) (known known' : List (Option Known)) (entries entries' : List (Term L × ℕ)) (label : L) (classes inputs : List ℕ) (key : Term L) (line tree i : ℕ)
    → IsMemo terms lines old known entries [] → IsKeyIn old label classes key → inputs ≡ key.inputs → i ≡ length old → (entries' ≡ entries ++ (key, i) ∷ []) × IsAbsent entries key → IsPut old new label inputs line tree → IsForest terms' lines' new known'
    → IsMemo terms' lines' new known' entries' [] × AddsExpr old new label classes line i
put_all {L} terms terms' lines lines' old new known known' entries entries' label classes inputs key line tree i memo is_key same end (enters, absent) (e, is, own, is_l, ins, is_line, is_tree, live) forest = (
  memo_put terms lines old new known entries entries' label classes key line tree terms' lines' known' memo is_key absent e is own is_l (ins ∙ same) live (enters ∙ ap (λ n. entries ++ (key, n) ∷ []) end) forest,
  inr (end, is_new terms lines old new known entries entries' label classes key line tree memo is_key absent (e, is, own, is_l, ins ∙ same, is_line, is_tree, live)),
)

-- the memo knows more of terms, over a longer log
pub memo_learnt : {L S : Type 0} (old new : LogValue L S) (exprs : List (Expr L)) (known now : List (Option Known)) (entries : List (Term L × ℕ)) (joins : List Join) → IsMemo old.terms old.lines exprs known entries joins → Grew old new → IsForest new.terms new.lines exprs now
    → IsMemo new.terms new.lines exprs now entries joins
memo_learnt old new exprs known now entries joins memo grew forest = record {
  forest = forest;
  indexed = memo.indexed;
  apart = memo.apart;
  canonical = memo.canonical;
  complete = memo.complete;
  joinable = λ n j at. let (a, b, at_a, at_b, has) = memo.joinable n j at in (a, b, at_a, at_b, line_still old new j.line a.tree b.tree grew has);
}

-- joins stay ones where an expression is added
pub added_joinable : {L S : Type 0} (old new : LogValue L S) (exprs exprs' : List (Expr L)) (joins : List Join) (label : L) (classes : List ℕ) (line c : ℕ) → Grew old new → AddsExpr exprs exprs' label classes line c → AreJoinable old.lines exprs joins → AreJoinable new.lines exprs' joins
added_joinable {L} old new exprs exprs' joins label classes line c grew adds given n j at =
    let (a, b, at_a, at_b, has) = given n j at in
    (a, b, stays j.left a at_a adds, stays j.right b at_b adds, line_still old new j.line a.tree b.tree grew has)
  where
    stays : (i : ℕ) (x : Expr L) → slice_get exprs i ≡ Some x → AddsExpr exprs exprs' label classes line c → slice_get exprs' i ≡ Some x
    stays i x at_x (inl (is, rest)) = ap (λ w. slice_get w i) is ∙ at_x
    stays i x at_x (inr (last_is, (e, is, own, is_l, zip, is_line, live, none))) = ap (λ w. slice_get w i) is ∙ front exprs (e ∷ []) i x at_x

pub adds_of : {L S : Type 0} (old new : MemoValue L S) (label : L) (classes : List ℕ) (line c : ℕ) → new.joins ≡ old.joins → AddsExpr old.exprs new.exprs label classes line c → Adds old new label classes line c
adds_of old new label classes line c same (inl (is, (i, (e, at, live, is_l, zip), one))) = (same, inl (is, (i, (e, (at, live), is_l, zip), one)))
adds_of old new label classes line c same (inr (end, (e, is, own, is_l, zip, is_line, live, none))) =
    (same, inr (e, is, end, own ∙ sym end, is_l, zip, is_line, live, λ i (x, (at, lives), labels, zips). none i (x, at, lives, labels, zips)))

pub notes_of : {L S : Type 0} (old new : MemoValue L S) (lines : List Line) (a b : ℕ) → new.exprs ≡ old.exprs → IsJoinOf lines old.exprs old.joins new.joins a b → Notes old new a b
notes_of old new lines a b same (j, is, one, one', rest) = (same, (j, is, one, one'))
