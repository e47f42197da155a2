-- One term more is known.
use Rattle.std.proofs.Common.{◌≡◌, ℕ, ◌<◌, List, Option, Some, None, length, slice_get, ap, sym, ◌∙◌, subst, inl, inr}
use Rattle.std.specs.List.{AllZip}
use Rattle.derivation.specs.Log.{LogValue}
use Rattle.derivation.specs.declared.reason.Line.{Line}
use Rattle.derivation.specs.declared.terms.Term.{Term}
use Rattle.derivation.proofs.StandsLaws.{keeps_of_take}
use Rattle.memo.specs.declared.expr.Expr.{Expr}
use Rattle.memo.specs.declared.expr.Known.{Known}
use Rattle.memo.specs.Forest.{HasLine, IsKnownIn, IsKnownOf, Fits, IsForest}
use Rattle.memo.specs.Grew.{Grew}
use Rattle.memo.specs.Index.{IsEntry}
use Rattle.memo.specs.Kept.{Indexes}
use Rattle.memo.specs.Learn.{IsKnown, IsNotedAt, IsFact, AreHomed, IsKeyFor, FitsAt}
use Rattle.memo.specs.Reach.{AreAlike}
use Rattle.memo.proofs.KeepLaws.{zip_map}
use Rattle.memo.proofs.RebuildLaws.{near_zip}
use Rattle.memo.proofs.UnionLaws.{within, got, same_or}

some_is : {A : Type 0} (a b : A) → Some a ≡ Some b → a ≡ b
some_is a b e = cc

-- the class of an expression is there
pub homed : {L : Type 0} (terms : List (Term L)) (lines : List Line) (exprs : List (Expr L)) (known : List (Option Known)) → IsForest terms lines exprs known → AreHomed exprs
homed terms lines exprs known f i e at = let (r, at_r, own, has) = f.home i e at in (r, at_r, own)

-- a term that was there is there in a longer log
pub still_there : {L S : Type 0} (old new : LogValue L S) (n : ℕ) → Grew old new → n < length old.terms → n < length new.terms
still_there old new n grew low = let (t, at) = got old.terms n low in within new.terms n t (keeps_of_take old.terms new.terms grew.terms n t at)

module _ {L : Type 0} (terms : List (Term L)) (lines : List Line) (exprs : List (Expr L)) (known now : List (Option Known)) (n : ℕ) (found : Known) (none : IsKnownOf known n None) (noted : IsNotedAt known now n found) where
  known_on : (m c : ℕ) → IsKnownIn exprs known m c → IsKnownIn exprs now m c
  known_on m c (k, at, one) = (k, noted.2 m k (λ s. none k (ap (λ x. slice_get known x) s ∙ at)) at, one)

  fits_on : (m : ℕ) (e : Expr L) → Fits exprs known terms m e → Fits exprs now terms m e
  fits_on m e (t, at, label, zip) = (t, at, label, zip_map (IsKnownIn exprs known) (IsKnownIn exprs now) known_on t.inputs e.inputs zip)

  -- what is noted of a term that was not known leaves a forest
  pub forest_noted : IsForest terms lines exprs known → IsFact terms lines exprs known n found → IsForest terms lines exprs now
  forest_noted f (e, at_e, has, fits) = record {
    older = f.older;
    home = f.home;
    ends = f.ends;
    fits = λ i x at. fits_on x.tree x (f.fits i x at);
    seen = λ m k at. elim (same_or n m) [
      | inl s ↦
          let same : found ≡ k = some_is found k (some_is (Some found) (Some k) (sym noted.0 ∙ ap (λ x. slice_get now x) s ∙ at)) in (
            e,
            ap (λ (x : Known). slice_get exprs x.expr) (sym same) ∙ at_e,
            subst (λ x. HasLine lines k.line x e.tree) s (subst (λ (x : Known). HasLine lines x.line n e.tree) same has),
            subst (λ x. Fits exprs now terms x e) s (fits_on n e fits),
          )
      | inr o ↦ let (x, at_x, has_x, fits_x) = f.seen m k (noted.1 m k o at) in (x, at_x, has_x, fits_on m x fits_x)
    ];
  }

  pub known_now : IsKnown now n
  known_now = (found, noted.0)

module _ {L : Type 0} (terms : List (Term L)) (lines : List Line) (exprs : List (Expr L)) (known : List (Option Known)) (forest : IsForest terms lines exprs known) where
  -- the expression that a key leads to fits the term
  pub key_fits : (entries : List (Term L × ℕ)) (n i : ℕ) (key : Term L) → Indexes entries exprs (length exprs) → IsKeyFor terms exprs known n key → IsEntry entries key i → FitsAt terms exprs known n i
  key_fits entries n i key indexed (t, at, label, zip) entry =
      let (low, (e, at_e, live, is)) = indexed.1 key i entry in
      (e, at_e, (t, at, sym label ∙ ap (λ (x : Term L). x.label) is, subst (λ (x : Term L). AllZip (IsKnownIn exprs known) t.inputs x.inputs) is zip))

  -- the tree of an expression and a term that fits it are alike
  pub fitting_alike : (n i : ℕ) (e : Expr L) → slice_get exprs i ≡ Some e → FitsAt terms exprs known n i → AreAlike terms exprs known e.tree n
  fitting_alike n i e at (x, at_x, (t, at_t, label, zip)) =
      let same : x ≡ e = some_is x e (sym at_x ∙ at) in
      let (s, at_s, label_s, zip_s) = forest.fits i e at in (
        s,
        t,
        at_s,
        at_t,
        label_s ∙ sym (label ∙ ap (λ (y : Expr L). y.label) same),
        near_zip terms lines exprs known forest s.inputs t.inputs e.inputs zip_s (subst (λ (y : Expr L). AllZip (IsKnownIn exprs known) t.inputs y.inputs) same zip),
      )

-- a line from the expression's tree, turned, is a fact of the term
pub turned_fact : {L S : Type 0} (old mid new : LogValue L S) (exprs : List (Expr L)) (known : List (Option Known)) (n i line : ℕ) (e : Expr L) → Grew old mid → Grew mid new → slice_get exprs i ≡ Some e → FitsAt old.terms exprs known n i
    → HasLine new.lines line n e.tree → IsFact new.terms new.lines exprs known n (record { expr = i; line = line })
turned_fact {L} old mid new exprs known n i line e g h at (x, at_x, (t, at_t, label, zip)) has =
    let same : x ≡ e = some_is x e (sym at_x ∙ at) in (
      e,
      at,
      has,
      (
        t,
        keeps_of_take mid.terms new.terms h.terms n t (keeps_of_take old.terms mid.terms g.terms n t at_t),
        label ∙ ap (λ (y : Expr L). y.label) same,
        subst (λ (y : Expr L). AllZip (IsKnownIn exprs known) t.inputs y.inputs) same zip,
      ),
    )

pub fits_low : {L : Type 0} (terms : List (Term L)) (exprs : List (Expr L)) (known : List (Option Known)) (n i : ℕ) → FitsAt terms exprs known n i → i < length exprs
fits_low terms exprs known n i (e, at, fits) = within exprs i e at

-- a key of the term's label over the classes of its inputs
pub key_made : {L : Type 0} (terms : List (Term L)) (exprs : List (Expr L)) (known : List (Option Known)) (n : ℕ) (inputs slice classes numbers : List ℕ) (label : L) → ((t : Term L) × (slice_get terms n ≡ Some t) × (inputs ≡ t.inputs)) → slice ≡ inputs
    → AllZip (IsKnownIn exprs known) slice classes → numbers ≡ classes → (t : Term L) → slice_get terms n ≡ Some t → label ≡ t.label → IsKeyFor terms exprs known n (record { label = label; inputs = numbers })
key_made {L} terms exprs known n inputs slice classes numbers label (t, at, is) same zip same' t' at' is_l =
    (t', at', is_l, subst (λ ns. AllZip (IsKnownIn exprs known) t'.inputs ns) (sym same') (subst (λ ns. AllZip (IsKnownIn exprs known) ns classes) (same ∙ is ∙ ap (λ (x : Term L). x.inputs) (some_is t t' (sym at ∙ at'))) zip))
