-- The types of the parts of a number.
use Rattle.std.proofs.Common.{◌≡◌, Bool, true, false, ◌&&◌, List, [], ◌∷◌, Option, Some, None, refl, ap, ◌∙◌, subst}
use Rattle.std.specs.Prelude.{codes, option_map, option_and_then, if◌then◌else◌}
use Rattle.std.specs.Cmp.{first_so, second_so}
use Rattle.std.proofs.lemmas.Bool.{false≢true}
use Rattle.pr_value.specs.Symbols.{Symbol}
use Rattle.pr_value.specs.SymbolSets.{contains}
use Rattle.pr_value.specs.declared.kind.Kind.{Kind}
use Rattle.pr_value.specs.declared.kind.Kind.TheVariants as kind
use Rattle.rule_ast.specs.declared.expr.BinOp.TheVariants as op
use Rattle.pr_value.specs.declared.property.Property.{Property}
use Rattle.rule_ast.specs.Syntax.{Expr, read, call, binary, Exprs}
use Rattle.rule_ast.specs.Syntax as syntax
use Rattle.rule_ast.specs.Typing.{Signature, Context, same_type, binary_type, call_type, property_kind, type_of_kind, type_of, types_of}

-- two expressions, and three
abbrev pub two : Expr → Expr → Exprs
two a b = syntax.cons a (syntax.cons b syntax.nil)

abbrev pub three : Expr → Expr → Expr → Exprs
three t a b = syntax.cons t (syntax.cons a (syntax.cons b syntax.nil))

-- a value that comes of another
pub some_first : {A B : Type 0} (f : A → Option B) (o : Option A) (y : B) → option_and_then f o ≡ Some y → (x : A) × (o ≡ Some x) × (f x ≡ Some y)
some_first f (Some x) y e = (x, refl, e)
some_first f None y e = cc

some_mapped : {A B : Type 0} (f : A → B) (o : Option A) (y : B) → option_map f o ≡ Some y → (x : A) × (o ≡ Some x) × (f x ≡ y)
some_mapped f (Some x) y e = (x, refl, cc)
some_mapped f None y e = cc

same_kind : (t u : Kind) → same_type t u ≡ true → u ≡ t
same_kind kind.Num kind.Num e = refl
same_kind kind.Truth kind.Truth e = refl
same_kind kind.Symbol kind.Symbol e = refl
same_kind kind.Set kind.Set e = refl
same_kind kind.List kind.List e = refl
same_kind kind.Cost kind.Cost e = refl
same_kind t u e = absurd (false≢true e)

add_parts : (t u : Kind) → binary_type op.Add t u ≡ Some kind.Num → (t ≡ kind.Num) × (u ≡ kind.Num)
add_parts kind.Num kind.Num e = (refl, refl)
add_parts t u e = cc

mul_parts : (t u : Kind) → binary_type op.Mul t u ≡ Some kind.Num → (t ≡ kind.Num) × (u ≡ kind.Num)
mul_parts kind.Num kind.Num e = (refl, refl)
mul_parts t u e = cc

-- what a choice's first signature gives, where the others give no number
first_choice : (a b c d e : Bool) → (if a then Some kind.Num else (if b then Some kind.Truth else (if c then Some kind.Symbol else (if d then Some kind.Set else (if e then Some kind.List else None))))) ≡ Some kind.Num → a ≡ true
first_choice true b c d e h = refl
first_choice false true c d e h = cc
first_choice false false true d e h = cc
first_choice false false false true e h = cc
first_choice false false false false true h = cc
first_choice false false false false false h = cc

only_choice : (a : Bool) → (if a then Some kind.Num else None) ≡ Some kind.Num → a ≡ true
only_choice true h = refl
only_choice false h = cc

two_numbers : (t u : Kind) → (same_type kind.Num t && (same_type kind.Num u && true)) ≡ true → (t ≡ kind.Num) × (u ≡ kind.Num)
two_numbers t u e = (same_kind _ t (first_so _ _ e), same_kind _ u (first_so _ _ (second_so _ _ e)))

module _ (hs : List Signature) where
  max_parts : (t u : Kind) → call_type hs (codes "max") (t ∷ u ∷ []) ≡ Some kind.Num → (t ≡ kind.Num) × (u ≡ kind.Num)
  max_parts t u e = two_numbers t u (only_choice _ e)

  min_parts : (t u : Kind) → call_type hs (codes "min") (t ∷ u ∷ []) ≡ Some kind.Num → (t ≡ kind.Num) × (u ≡ kind.Num)
  min_parts t u e = two_numbers t u (only_choice _ e)

  if_parts : (t u v : Kind) → call_type hs (codes "if") (t ∷ u ∷ v ∷ []) ≡ Some kind.Num → (t ≡ kind.Truth) × (u ≡ kind.Num) × (v ≡ kind.Num)
  if_parts t u v e =
      let h : (same_type kind.Truth t && (same_type kind.Num u && (same_type kind.Num v && true))) ≡ true = first_choice _ _ _ _ _ e in
      (same_kind _ t (first_so _ _ h), same_kind _ u (first_so _ _ (second_so _ _ h)), same_kind _ v (first_so _ _ (second_so _ _ (second_so _ _ h))))

module _ (ps : List Property) (hs : List Signature) (c : Context) where
  abbrev pub IsA : Kind → Expr → Type 0
  IsA t e = type_of ps hs c e ≡ Some t

  retype : {t u : Kind} (e : Expr) → IsA t e → t ≡ u → IsA u e
  retype e is same = subst (λ k. IsA k e) same is

  -- both sides of a sum, and of a product, are numbers
  pub add_types : (a b : Expr) → IsA kind.Num (binary a op.Add b) → IsA kind.Num a × IsA kind.Num b
  add_types a b e =
      let p = some_first (λ t. option_and_then (binary_type op.Add t) (type_of ps hs c b)) (type_of ps hs c a) kind.Num e in
      let q = some_first (binary_type op.Add p.0) (type_of ps hs c b) kind.Num p.2 in
      let are = add_parts p.0 q.0 q.2 in (retype a p.1 are.0, retype b q.1 are.1)

  pub mul_types : (a b : Expr) → IsA kind.Num (binary a op.Mul b) → IsA kind.Num a × IsA kind.Num b
  mul_types a b e =
      let p = some_first (λ t. option_and_then (binary_type op.Mul t) (type_of ps hs c b)) (type_of ps hs c a) kind.Num e in
      let q = some_first (binary_type op.Mul p.0) (type_of ps hs c b) kind.Num p.2 in
      let are = mul_parts p.0 q.0 q.2 in (retype a p.1 are.0, retype b q.1 are.1)

  types_cons : (e : Expr) (es : Exprs) (ts : List Kind) → types_of ps hs c (syntax.cons e es) ≡ Some ts → (t : Kind) × (us : List Kind) × IsA t e × (types_of ps hs c es ≡ Some us) × (t ∷ us ≡ ts)
  types_cons e es ts h =
      let p = some_first (λ t. option_map (λ us. t ∷ us) (types_of ps hs c es)) (type_of ps hs c e) ts h in
      let q = some_mapped (λ us. p.0 ∷ us) (types_of ps hs c es) ts p.2 in (p.0, q.0, p.1, q.1, q.2)

  called : (f : Symbol) (ts us : List Kind) → ts ≡ us → call_type hs f us ≡ Some kind.Num → call_type hs f ts ≡ Some kind.Num
  called f ts us same e = ap (call_type hs f) same ∙ e

  two_types : (f : Symbol) (a b : Expr) → IsA kind.Num (call f (two a b)) → (t : Kind) × (u : Kind) × IsA t a × IsA u b × (call_type hs f (t ∷ u ∷ []) ≡ Some kind.Num)
  two_types f a b e =
      let p = some_first (call_type hs f) (types_of ps hs c (two a b)) kind.Num e in
      let q = types_cons a (syntax.cons b syntax.nil) p.0 p.1 in
      let r = types_cons b syntax.nil q.1 q.3 in
      (q.0, r.0, q.2, r.2, called f (q.0 ∷ r.0 ∷ []) p.0 (cc) p.2)

  pub max_types : (a b : Expr) → IsA kind.Num (call (codes "max") (two a b)) → IsA kind.Num a × IsA kind.Num b
  max_types a b e = let p = two_types (codes "max") a b e in let are = max_parts hs p.0 p.1 p.4 in (retype a p.2 are.0, retype b p.3 are.1)

  pub min_types : (a b : Expr) → IsA kind.Num (call (codes "min") (two a b)) → IsA kind.Num a × IsA kind.Num b
  min_types a b e = let p = two_types (codes "min") a b e in let are = min_parts hs p.0 p.1 p.4 in (retype a p.2 are.0, retype b p.3 are.1)

  three_types : (f : Symbol) (t a b : Expr) → IsA kind.Num (call f (three t a b)) → (u : Kind) × (v : Kind) × (w : Kind) × IsA u t × IsA v a × IsA w b × (call_type hs f (u ∷ v ∷ w ∷ []) ≡ Some kind.Num)
  three_types f t a b e =
      let p = some_first (call_type hs f) (types_of ps hs c (three t a b)) kind.Num e in
      let q = types_cons t (syntax.cons a (syntax.cons b syntax.nil)) p.0 p.1 in
      let r = types_cons a (syntax.cons b syntax.nil) q.1 q.3 in
      let s = types_cons b syntax.nil r.1 r.3 in
      (q.0, r.0, s.0, q.2, r.2, s.2, called f (q.0 ∷ r.0 ∷ s.0 ∷ []) p.0 (cc) p.2)

  pub if_types : (t a b : Expr) → IsA kind.Num (call (codes "if") (three t a b)) → IsA kind.Truth t × IsA kind.Num a × IsA kind.Num b
  if_types t a b e =
      let p = three_types (codes "if") t a b e in
      let are = if_parts hs p.0 p.1 p.2 p.6 in (retype t p.3 are.0, retype a p.4 are.1, retype b p.5 are.2)

  -- a property that is read is declared, and its descriptor is there
  pub read_types : (d p : Symbol) → IsA kind.Num (read d p) → (contains c.descs d ≡ true) × ((k : Kind) × (property_kind ps p ≡ Some k))
  read_types d p e = by_test (contains c.descs d) refl e where
    by_test : (b : Bool) → contains c.descs d ≡ b → (if b then option_map type_of_kind (property_kind ps p) else None) ≡ Some kind.Num → (contains c.descs d ≡ true) × ((k : Kind) × (property_kind ps p ≡ Some k))
    by_test true is h = let q = some_mapped type_of_kind (property_kind ps p) kind.Num h in (is, (q.0, q.1))
    by_test false is h = cc
