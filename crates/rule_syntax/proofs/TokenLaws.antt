-- The readers of one token.
use Rattle.std.proofs.Common.{◌≡◌, ℕ, zero, suc, Bool, true, false, cond, List, [], ◌∷◌, Option, Some, None, refl, sym, ap, ◌∙◌, subst}
use Rattle.std.specs.Prelude.{codes, not, ◌&&◌, ◌||◌, nat_le}
use Rattle.std.proofs.lemmas.Bool.{eqb-true}
use Rattle.std.specs.Str.{bytes_eq}
use Rattle.std.proofs.lemmas.Slice.Eq.{bytes_eq-Decides}
use Rattle.pr_value.specs.Capped.{cap}
use Rattle.pr_value.specs.Symbols.{Symbol, is_name, is_symbol, dash}
use Rattle.pr_value.specs.declared.kind.Kind.{Kind}
use Rattle.pr_value.specs.declared.kind.Kind.TheVariants as kind
use Rattle.pr_value.specs.declared.token.Token.TheVariants as token
use Rattle.pr_value.specs.declared.token.Mark.{Mark}
use Rattle.pr_value.specs.declared.token.Mark.TheVariants as mark
use Rattle.rule_ast.specs.declared.expr.BinOp.{BinOp}
use Rattle.rule_ast.specs.declared.expr.BinOp.TheVariants as op
use Rattle.rule_ast.specs.declared.expr.FoldKind.{FoldKind}
use Rattle.rule_ast.specs.declared.expr.FoldKind.TheVariants as folding
use Rattle.rule_syntax.specs.Tokens.{Text, kind_name, truth_name, fold_name, binop_mark}
use Rattle.rule_ast.specs.Spelled.{is_free}
use Rattle.rule_syntax.specs.Reading.{◌>>=◌, mark_number, same_mark, mark_at, word_at, name_at, number_at, quoted_at, kind_of, kind_at, truth_of, fold_of, binop_of, binop_at}

pub bind_some : {A B : Type 0} (o : Option A) (f : A → Option B) (y : B) → (o >>= f) ≡ Some y → (x : A) × (o ≡ Some x) × (f x ≡ Some y)
bind_some (Some x) f y e = (x, refl, e)
bind_some None f y e = cc

-- the same, for what follows from it: what is read is a variable there, and terms stay small
pub on_some : {A B P : Type 0} (o : Option A) (f : A → Option B) (y : B) → (o >>= f) ≡ Some y → ((x : A) → o ≡ Some x → f x ≡ Some y → P) → P
on_some (Some x) f y e use_it = use_it x refl e
on_some None f y e use_it = absurd (cc e)

pub some_same : {A : Type 0} (x y : A) → Some x ≡ Some y → x ≡ y
some_same x y e = cc

pub guard_some : {A : Type 0} (b : Bool) (o : Option A) (y : A) → cond b o None ≡ Some y → (b ≡ true) × (o ≡ Some y)
guard_some true o y e = (refl, e)
guard_some false o y e = cc

pub both_true : (a b : Bool) → (a && b) ≡ true → (a ≡ true) × (b ≡ true)
both_true true b e = (refl, e)
both_true false b e = cc

pub and_true : (a b : Bool) → a ≡ true → b ≡ true → (a && b) ≡ true
and_true true b e f = f
and_true false b e f = cc

or_false : (a : Bool) → (a || false) ≡ true → a ≡ true
or_false true e = refl
or_false false e = e

-- a symbol is a name, or it is `-`
pub not_dash : (s : Symbol) → is_symbol s ≡ true → not (bytes_eq s dash) ≡ is_name s
not_dash s h = next (bytes_eq s dash) refl h where
  next : (b : Bool) → bytes_eq s dash ≡ b → (is_name s || b) ≡ true → not b ≡ is_name s
  next true e h = let same : s ≡ dash = (bytes_eq-Decides s dash).0 e in let none : is_name s ≡ false = ap is_name same in sym none
  next false e h = sym (or_false (is_name s) h)

abbrev marks : List Mark
marks =
    mark.OpenBrace ∷ mark.CloseBrace ∷ mark.OpenBracket ∷ mark.CloseBracket ∷ mark.OpenParen ∷ mark.CloseParen ∷ mark.Comma ∷ mark.Semicolon ∷ mark.Colon ∷ mark.Dot ∷
    mark.Question ∷ mark.Assign ∷ mark.Arrow ∷ mark.Equal ∷ mark.NotEqual ∷ mark.Less ∷ mark.LessEqual ∷ mark.Greater ∷ mark.GreaterEqual ∷ mark.Plus ∷ mark.Minus ∷
    mark.Times ∷ mark.Slash ∷ mark.AndAnd ∷ mark.OrOr ∷ []

abbrev pick : List Mark → ℕ → Mark
pick [] n = mark.OrOr
pick (x ∷ xs) zero = x
pick (x ∷ xs) (suc n) = pick xs n

picked : (x : Mark) → pick marks (mark_number x) ≡ x
picked mark.OpenBrace = refl
picked mark.CloseBrace = refl
picked mark.OpenBracket = refl
picked mark.CloseBracket = refl
picked mark.OpenParen = refl
picked mark.CloseParen = refl
picked mark.Comma = refl
picked mark.Semicolon = refl
picked mark.Colon = refl
picked mark.Dot = refl
picked mark.Question = refl
picked mark.Assign = refl
picked mark.Arrow = refl
picked mark.Equal = refl
picked mark.NotEqual = refl
picked mark.Less = refl
picked mark.LessEqual = refl
picked mark.Greater = refl
picked mark.GreaterEqual = refl
picked mark.Plus = refl
picked mark.Minus = refl
picked mark.Times = refl
picked mark.Slash = refl
picked mark.AndAnd = refl
picked mark.OrOr = refl

pub mark_sound : (wanted : Mark) (ts rest : Text) → mark_at wanted ts ≡ Some rest → ts ≡ token.Mark wanted ∷ rest
mark_sound wanted (token.Mark found ∷ ts) rest e =
    let g = guard_some (same_mark found wanted) (Some ts) rest e in
    let same : found ≡ wanted = sym (picked found) ∙ ap (pick marks) (eqb-true (mark_number found) (mark_number wanted) (g.0)) ∙ picked wanted in
    let behind : ts ≡ rest = cc (g.1) in
    rw same (rw behind refl)
mark_sound wanted [] rest e = cc
mark_sound wanted (token.Number k ∷ ts) rest e = cc
mark_sound wanted (token.Quoted k ∷ ts) rest e = cc
mark_sound wanted (token.Name k ∷ ts) rest e = cc

pub word_sound : (wanted : Symbol) (ts rest : Text) → word_at wanted ts ≡ Some rest → ts ≡ token.Name wanted ∷ rest
word_sound wanted (token.Name found ∷ ts) rest e =
    let g = guard_some (bytes_eq found wanted) (Some ts) rest e in
    let same : found ≡ wanted = (bytes_eq-Decides found wanted).0 (g.0) in
    let behind : ts ≡ rest = cc (g.1) in
    rw same (rw behind refl)
word_sound wanted [] rest e = cc
word_sound wanted (token.Number k ∷ ts) rest e = cc
word_sound wanted (token.Quoted k ∷ ts) rest e = cc
word_sound wanted (token.Mark k ∷ ts) rest e = cc

pub name_sound : (ts : Text) (x : Symbol × Text) → name_at ts ≡ Some x → (is_free x.0 ≡ true) × (ts ≡ token.Name x.0 ∷ x.1)
name_sound (token.Name found ∷ ts) x e =
    let g = guard_some (is_free found) (Some (found, ts)) x e in
    let same : (found, ts) ≡ x = cc (g.1) in
    subst (λ (y : Symbol × Text). (is_free y.0 ≡ true) × (token.Name found ∷ ts ≡ token.Name y.0 ∷ y.1)) same (g.0, refl)
name_sound [] x e = cc
name_sound (token.Number k ∷ ts) x e = cc
name_sound (token.Quoted k ∷ ts) x e = cc
name_sound (token.Mark k ∷ ts) x e = cc

pub name_complete : (s : Symbol) (rest : Text) → is_free s ≡ true → name_at (token.Name s ∷ rest) ≡ Some (s, rest)
name_complete s rest h = rw h refl

pub number_sound : (ts : Text) (x : ℕ × Text) → number_at ts ≡ Some x → (nat_le x.0 cap ≡ true) × (ts ≡ token.Number x.0 ∷ x.1)
number_sound (token.Number n ∷ ts) x e =
    let g = guard_some (nat_le n cap) (Some (n, ts)) x e in
    let same : (n, ts) ≡ x = some_same (n, ts) x (g.1) in
    subst (λ (y : ℕ × Text). (nat_le y.0 cap ≡ true) × (token.Number n ∷ ts ≡ token.Number y.0 ∷ y.1)) same (g.0, refl)
number_sound [] x e = cc
number_sound (token.Name k ∷ ts) x e = cc
number_sound (token.Quoted k ∷ ts) x e = cc
number_sound (token.Mark k ∷ ts) x e = cc

pub number_complete : (n : ℕ) (rest : Text) → nat_le n cap ≡ true → number_at (token.Number n ∷ rest) ≡ Some (n, rest)
number_complete n rest h = ap (λ b. cond b (Some (n, rest)) None) h

pub quoted_sound : (ts : Text) (x : Symbol × Text) → quoted_at ts ≡ Some x → (is_symbol x.0 ≡ true) × (ts ≡ token.Quoted x.0 ∷ x.1)
quoted_sound (token.Quoted s ∷ ts) x e =
    let g = guard_some (is_symbol s) (Some (s, ts)) x e in
    let same : (s, ts) ≡ x = some_same (s, ts) x (g.1) in
    subst (λ (y : Symbol × Text). (is_symbol y.0 ≡ true) × (token.Quoted s ∷ ts ≡ token.Quoted y.0 ∷ y.1)) same (g.0, refl)
quoted_sound [] x e = cc
quoted_sound (token.Name k ∷ ts) x e = cc
quoted_sound (token.Number k ∷ ts) x e = cc
quoted_sound (token.Mark k ∷ ts) x e = cc

pub quoted_complete : (s : Symbol) (rest : Text) → is_symbol s ≡ true → quoted_at (token.Quoted s ∷ rest) ≡ Some (s, rest)
quoted_complete s rest h = ap (λ b. cond b (Some (s, rest)) None) h

kind_named : (s : Symbol) (k : Kind) → kind_of s ≡ Some k → s ≡ kind_name k
kind_named s k e =
    one (bytes_eq s (codes "num")) (bytes_eq s (codes "truth")) (bytes_eq s (codes "symbol")) (bytes_eq s (codes "set")) (bytes_eq s (codes "list")) (bytes_eq s (codes "cost")) refl refl refl refl refl refl e where
      is : (w : Symbol) (j : Kind) → bytes_eq s w ≡ true → kind_name j ≡ w → Some j ≡ Some k → s ≡ kind_name k
      is w j b n f = let same : j ≡ k = cc f in (bytes_eq-Decides s w).0 b ∙ sym n ∙ ap kind_name same

      one : (a b c d f g : Bool) → bytes_eq s (codes "num") ≡ a → bytes_eq s (codes "truth") ≡ b → bytes_eq s (codes "symbol") ≡ c → bytes_eq s (codes "set") ≡ d → bytes_eq s (codes "list") ≡ f → bytes_eq s (codes "cost") ≡ g →
          cond a (Some kind.Num) (cond b (Some kind.Truth) (cond c (Some kind.Symbol) (cond d (Some kind.Set) (cond f (Some kind.List) (cond g (Some kind.Cost) None))))) ≡ Some k → s ≡ kind_name k
      one true b c d f g p q r t u v e = is (codes "num") kind.Num p refl e
      one false true c d f g p q r t u v e = is (codes "truth") kind.Truth q refl e
      one false false true d f g p q r t u v e = is (codes "symbol") kind.Symbol r refl e
      one false false false true f g p q r t u v e = is (codes "set") kind.Set t refl e
      one false false false false true g p q r t u v e = is (codes "list") kind.List u refl e
      one false false false false false true p q r t u v e = is (codes "cost") kind.Cost v refl e
      one false false false false false false p q r t u v e = cc

pub kind_sound : (ts : Text) (x : Kind × Text) → kind_at ts ≡ Some x → ts ≡ token.Name (kind_name x.0) ∷ x.1
kind_sound (token.Name found ∷ ts) x e =
    let p = bind_some (kind_of found) (λ (k : Kind). Some (k, ts)) x e in
    let same : (p.0, ts) ≡ x = cc (p.2) in
    subst (λ (y : Kind × Text). token.Name found ∷ ts ≡ token.Name (kind_name y.0) ∷ y.1) same (ap (λ s. token.Name s ∷ ts) (kind_named found p.0 (p.1)))
kind_sound [] x e = cc
kind_sound (token.Number k ∷ ts) x e = cc
kind_sound (token.Quoted k ∷ ts) x e = cc
kind_sound (token.Mark k ∷ ts) x e = cc

pub kind_complete : (k : Kind) (rest : Text) → kind_at (token.Name (kind_name k) ∷ rest) ≡ Some (k, rest)
kind_complete kind.Num rest = refl
kind_complete kind.Truth rest = refl
kind_complete kind.Symbol rest = refl
kind_complete kind.Set rest = refl
kind_complete kind.List rest = refl
kind_complete kind.Cost rest = refl

-- the truth values and folds by their names
pub truth_named : (s : Symbol) (b : Bool) → truth_of s ≡ Some b → s ≡ truth_name b
truth_named s b e = one (bytes_eq s (codes "true")) (bytes_eq s (codes "false")) refl refl e where
  one : (p q : Bool) → bytes_eq s (codes "true") ≡ p → bytes_eq s (codes "false") ≡ q → cond p (Some true) (cond q (Some false) None) ≡ Some b → s ≡ truth_name b
  one true q f g e = (bytes_eq-Decides s (codes "true")).0 f ∙ ap truth_name (some_same true b e)
  one false true f g e = (bytes_eq-Decides s (codes "false")).0 g ∙ ap truth_name (some_same false b e)
  one false false f g e = cc

pub truth_complete : (b : Bool) → truth_of (truth_name b) ≡ Some b
truth_complete true = refl
truth_complete false = refl

pub fold_named : (s : Symbol) (k : FoldKind) → fold_of s ≡ Some k → s ≡ fold_name k
fold_named s k e = one (bytes_eq s (codes "sum")) (bytes_eq s (codes "product")) (bytes_eq s (codes "any")) (bytes_eq s (codes "all")) (bytes_eq s (codes "keep")) refl refl refl refl refl e where
  is : (w : Symbol) (j : FoldKind) → bytes_eq s w ≡ true → fold_name j ≡ w → Some j ≡ Some k → s ≡ fold_name k
  is w j b n f = (bytes_eq-Decides s w).0 b ∙ sym n ∙ ap fold_name (some_same j k f)

  one : (a b c d f : Bool) → bytes_eq s (codes "sum") ≡ a → bytes_eq s (codes "product") ≡ b → bytes_eq s (codes "any") ≡ c → bytes_eq s (codes "all") ≡ d → bytes_eq s (codes "keep") ≡ f →
      cond a (Some folding.Sum) (cond b (Some folding.Product) (cond c (Some folding.Any) (cond d (Some folding.All) (cond f (Some folding.Keep) None)))) ≡ Some k → s ≡ fold_name k
  one true b c d f p q r t u e = is (codes "sum") folding.Sum p refl e
  one false true c d f p q r t u e = is (codes "product") folding.Product q refl e
  one false false true d f p q r t u e = is (codes "any") folding.Any r refl e
  one false false false true f p q r t u e = is (codes "all") folding.All t refl e
  one false false false false true p q r t u e = is (codes "keep") folding.Keep u refl e
  one false false false false false p q r t u e = cc

pub fold_complete : (k : FoldKind) → fold_of (fold_name k) ≡ Some k
fold_complete folding.Sum = refl
fold_complete folding.Product = refl
fold_complete folding.Any = refl
fold_complete folding.All = refl
fold_complete folding.Keep = refl

-- a name of the grammar is no reserved word
pub free_is_not : (s w : Symbol) → is_free w ≡ false → is_free s ≡ true → bytes_eq s w ≡ false
free_is_not s w r f = next (bytes_eq s w) refl where
  next : (b : Bool) → bytes_eq s w ≡ b → b ≡ false
  next true e = let same : s ≡ w = (bytes_eq-Decides s w).0 e in let wrong : true ≡ false = sym f ∙ ap is_free same ∙ r in cc wrong
  next false e = refl

pub free_no_truth : (s : Symbol) → is_free s ≡ true → truth_of s ≡ None
unfolding is_free
free_no_truth s f =
    let one : bytes_eq s (codes "true") ≡ false = free_is_not s (codes "true") refl f in
    let two : bytes_eq s (codes "false") ≡ false = free_is_not s (codes "false") refl f in
    ap (λ b. cond b (Some true) (cond (bytes_eq s (codes "false")) (Some false) None)) one ∙ ap (λ b. cond b (Some false) None) two

pub free_no_fold : (s : Symbol) → is_free s ≡ true → fold_of s ≡ None
unfolding is_free
free_no_fold s f =
    none (bytes_eq s (codes "sum")) (bytes_eq s (codes "product")) (bytes_eq s (codes "any")) (bytes_eq s (codes "all")) (bytes_eq s (codes "keep"))
    (free_is_not s (codes "sum") refl f) (free_is_not s (codes "product") refl f) (free_is_not s (codes "any") refl f) (free_is_not s (codes "all") refl f) (free_is_not s (codes "keep") refl f) where
      none : (a b c d e : Bool) → a ≡ false → b ≡ false → c ≡ false → d ≡ false → e ≡ false →
          cond a (Some folding.Sum) (cond b (Some folding.Product) (cond c (Some folding.Any) (cond d (Some folding.All) (cond e (Some folding.Keep) None)))) ≡ None
      none true b c d e p q r t u = cc
      none false true c d e p q r t u = cc
      none false false true d e p q r t u = cc
      none false false false true e p q r t u = cc
      none false false false false true p q r t u = cc
      none false false false false false p q r t u = refl

pub free_no_file : (s : Symbol) → is_free s ≡ true → bytes_eq s (codes "file") ≡ false
unfolding is_free
free_no_file s f = free_is_not s (codes "file") refl f

pub free_no_null : (s : Symbol) → is_free s ≡ true → bytes_eq s (codes "Null") ≡ false
unfolding is_free
free_no_null s f = free_is_not s (codes "Null") refl f

marked_op : (x : Mark) (o : BinOp) → binop_of x ≡ Some o → x ≡ binop_mark o
marked_op mark.Plus o e = ap binop_mark (some_same op.Add o e)
marked_op mark.Minus o e = ap binop_mark (some_same op.Sub o e)
marked_op mark.Times o e = ap binop_mark (some_same op.Mul o e)
marked_op mark.Slash o e = ap binop_mark (some_same op.Div o e)
marked_op mark.Equal o e = ap binop_mark (some_same op.Equal o e)
marked_op mark.NotEqual o e = ap binop_mark (some_same op.NotEqual o e)
marked_op mark.Less o e = ap binop_mark (some_same op.Less o e)
marked_op mark.LessEqual o e = ap binop_mark (some_same op.LessEqual o e)
marked_op mark.Greater o e = ap binop_mark (some_same op.Greater o e)
marked_op mark.GreaterEqual o e = ap binop_mark (some_same op.GreaterEqual o e)
marked_op mark.AndAnd o e = ap binop_mark (some_same op.And o e)
marked_op mark.OrOr o e = ap binop_mark (some_same op.Or o e)
marked_op x o e = cc

pub binop_sound : (ts : Text) (x : BinOp × Text) → binop_at ts ≡ Some x → ts ≡ token.Mark (binop_mark x.0) ∷ x.1
binop_sound (token.Mark found ∷ ts) x e =
    let p = bind_some (binop_of found) (λ (o : BinOp). Some (o, ts)) x e in
    let same : (p.0, ts) ≡ x = some_same (p.0, ts) x (p.2) in
    subst (λ (y : BinOp × Text). token.Mark found ∷ ts ≡ token.Mark (binop_mark y.0) ∷ y.1) same (ap (λ y. token.Mark y ∷ ts) (marked_op found p.0 (p.1)))
binop_sound [] x e = cc
binop_sound (token.Number k ∷ ts) x e = cc
binop_sound (token.Quoted k ∷ ts) x e = cc
binop_sound (token.Name k ∷ ts) x e = cc

pub binop_complete : (o : BinOp) (rest : Text) → binop_at (token.Mark (binop_mark o) ∷ rest) ≡ Some (o, rest)
binop_complete op.Add rest = refl
binop_complete op.Sub rest = refl
binop_complete op.Mul rest = refl
binop_complete op.Div rest = refl
binop_complete op.Equal rest = refl
binop_complete op.NotEqual rest = refl
binop_complete op.Less rest = refl
binop_complete op.LessEqual rest = refl
binop_complete op.Greater rest = refl
binop_complete op.GreaterEqual rest = refl
binop_complete op.And rest = refl
binop_complete op.Or rest = refl
