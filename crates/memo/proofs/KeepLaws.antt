-- A forest stays one where the log grows, and where classes are merged.
use Rattle.std.proofs.Common.{◌≡◌, ℕ, ◌≤◌, List, [], ◌∷◌, Option, Some, Result, Ok, Err, length, take, slice_get, ap, sym, ◌∙◌, subst}
use Rattle.std.specs.Prelude.{IfOk}
use Rattle.std.specs.List.{AllZip}
use Rattle.derivation.specs.Log.{LogValue}
use Rattle.derivation.specs.declared.reason.Line.{Line}
use Rattle.derivation.specs.declared.terms.Term.{Term}
use Rattle.derivation.proofs.StandsLaws.{Keeps, keeps_of_take}
use Rattle.memo.specs.declared.expr.Expr.{Expr}
use Rattle.memo.specs.declared.expr.Known.{Known}
use Rattle.memo.specs.Forest.{HasLine, IsOneClass, IsKnownIn, Fits, HasHome, IsForest, LeadsHome}
use Rattle.memo.specs.declared.expr.Join.{Join}
use Rattle.memo.specs.Kept.{IsMemo}
use Rattle.memo.specs.Grew.{Grew, Chains}

some_is : {A : Type 0} (a b : A) → Some a ≡ Some b → a ≡ b
some_is a b e = cc

line_keeps : (old new : List Line) (i m n : ℕ) → Keeps old new → HasLine old i m n → HasLine new i m n
line_keeps old new i m n keeps (l, at, left, right) = (l, keeps i l at, left, right)

-- more terms and lines
pub forest_kept : {L : Type 0} (terms terms' : List (Term L)) (ls ls' : List Line) (exprs : List (Expr L)) (known : List (Option Known)) → Keeps terms terms' → Keeps ls ls' → IsForest terms ls exprs known → IsForest terms' ls' exprs known
forest_kept terms terms' ls ls' exprs known t_keeps l_keeps f = record {
  older = f.older;
  home = λ i e at. let (r, at_r, flat, has) = f.home i e at in (r, at_r, flat, line_keeps ls ls' e.home e.tree r.tree l_keeps has);
  ends = λ i e at. let (l, at_l, right) = f.ends i e at in (l, l_keeps e.line l at_l, right);
  fits = λ i e at. let (t, at_t, label, zip) = f.fits i e at in (t, t_keeps e.tree t at_t, label, zip);
  seen = λ n k at. let (e, at_e, has, (t, at_t, label, zip)) = f.seen n k at in (e, at_e, line_keeps ls ls' k.line n e.tree l_keeps has, (t, t_keeps n t at_t, label, zip));
}

pub forest_grew : {L S : Type 0} (old new : LogValue L S) (exprs : List (Expr L)) (known : List (Option Known)) → Grew old new → IsForest old.terms old.lines exprs known → IsForest new.terms new.lines exprs known
forest_grew old new exprs known grew f = forest_kept old.terms new.terms old.lines new.lines exprs known (keeps_of_take old.terms new.terms grew.terms) (keeps_of_take old.lines new.lines grew.lines) f

-- the same but for the class and the line that leads to its root
abbrev pub IsSame : {L : Type 0} → Expr L → Expr L → Type 0
IsSame e e' = (e'.label ≡ e.label) × (e'.inputs ≡ e.inputs) × (e'.line ≡ e.line) × (e'.tree ≡ e.tree)

pub zip_map : {A B : Type 0} (R Q : A → B → Type 0) (w : (a : A) (b : B) → R a b → Q a b) (xs : List A) (ys : List B) → AllZip R xs ys → AllZip Q xs ys
zip_map R Q w [] [] all = tt
zip_map R Q w [] (b ∷ ys) all = absurd all
zip_map R Q w (a ∷ xs) [] all = absurd all
zip_map R Q w (a ∷ xs) (b ∷ ys) all = (w a b all.0, zip_map R Q w xs ys all.1)

module _ {L : Type 0} (terms : List (Term L)) (lines : List Line) (old new : List (Expr L)) (known : List (Option Known))
    (back : (i : ℕ) (e' : Expr L) → slice_get new i ≡ Some e' → (e : Expr L) × (slice_get old i ≡ Some e) × IsSame e e')
    (forth : (i : ℕ) (e : Expr L) → slice_get old i ≡ Some e → (e' : Expr L) × (slice_get new i ≡ Some e') × IsSame e e')
    (older : (i : ℕ) (e : Expr L) → slice_get new i ≡ Some e → e.class ≤ i)
    (home : (i : ℕ) (e : Expr L) → slice_get new i ≡ Some e → HasHome lines new e)
    (merges : (x y : ℕ) → IsOneClass old x y → IsOneClass new x y) where
  fits_still : (n : ℕ) (e e' : Expr L) → IsSame e e' → Fits old known terms n e → Fits new known terms n e'
  fits_still n e e' (label, inputs, line, tree) (t, at, is_l, zip) =
      (t, at, is_l ∙ sym label, subst (λ cs. AllZip (IsKnownIn new known) t.inputs cs) (sym inputs) (zip_map (IsKnownIn old known) (IsKnownIn new known) (λ m c (k, at_m, one). (k, at_m, merges k.expr c one)) t.inputs e.inputs zip))

  -- classes that are only merged, each root again with a line to it
  pub forest_merged : IsForest terms lines old known → IsForest terms lines new known
  forest_merged f = record {
    older = older;
    home = home;
    ends = λ i e' at'. let (e, at, (label, inputs, line, tree)) = back i e' at' in let (l, at_l, right) = f.ends i e at in (l, ap (λ x. slice_get lines x) line ∙ at_l, right ∙ sym tree);
    fits = λ i e' at'. let (e, at, same) = back i e' at' in subst (λ x. Fits new known terms x e') (sym same.3) (fits_still e.tree e e' same (f.fits i e at));
    seen = λ n k at_n. let (e, at, has, fits) = f.seen n k at_n in let (e', at', same) = forth k.expr e at in (e', at', subst (λ x. HasLine lines k.line n x) (sym same.3) has, fits_still n e e' same fits);
  }

-- the chain of what is known of a term and its expression's home
pub leads_home : {L S : Type 0} (old new : LogValue L S) (exprs : List (Expr L)) (known : List (Option Known)) (n i : ℕ) (k : Known) (e : Expr L) → IsForest old.terms old.lines exprs known
    → slice_get known n ≡ Some (Some k) → slice_get exprs k.expr ≡ Some e → Chains old new k.line e.home i → LeadsHome new.lines exprs known n i
leads_home {L} old new exprs known n i k e f at_n at_e chains =
    let (e', at_e', has, fits) = f.seen n k at_n in
    let same : e' ≡ e = some_is e' e (sym at_e' ∙ at_e) in
    let (r, at_r, flat, up) = f.home k.expr e at_e in
    (k, e, r, at_n, at_e, at_r, chains n e.tree r.tree (subst (λ (x : Expr L). HasLine old.lines k.line n x.tree) same has) up)

pub home_made : {L S E : Type 0} (old new : LogValue L S) (exprs : List (Expr L)) (known : List (Option Known)) (n : ℕ) (k : Known) (e : Expr L) (r : Result ℕ E) → IsForest old.terms old.lines exprs known
    → slice_get known n ≡ Some (Some k) → slice_get exprs k.expr ≡ Some e → IfOk r (Chains old new k.line e.home) → IfOk r (LeadsHome new.lines exprs known n)
home_made old new exprs known n k e (Ok i) f at_n at_e chains = leads_home old new exprs known n i k e f at_n at_e chains
home_made old new exprs known n k e (Err x) f at_n at_e chains = tt

-- a memo under a longer log
pub memo_kept : {L : Type 0} (terms terms' : List (Term L)) (ls ls' : List Line) (exprs : List (Expr L)) (known : List (Option Known)) (entries : List (Term L × ℕ)) (joins : List Join)
    → take (length terms) terms' ≡ terms → take (length ls) ls' ≡ ls → IsMemo terms ls exprs known entries joins → IsMemo terms' ls' exprs known entries joins
memo_kept terms terms' ls ls' exprs known entries joins t l m = record {
  forest = forest_kept terms terms' ls ls' exprs known (keeps_of_take terms terms' t) (keeps_of_take ls ls' l) m.forest;
  indexed = m.indexed;
  apart = m.apart;
  canonical = m.canonical;
  complete = m.complete;
  joinable = λ n j at. let (a, b, at_a, at_b, has) = m.joinable n j at in (a, b, at_a, at_b, line_keeps ls ls' j.line a.tree b.tree (keeps_of_take ls ls' l) has);
}
