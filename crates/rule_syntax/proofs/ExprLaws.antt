-- The reader of expressions reads what is spelled, and nothing else.
use Rattle.std.proofs.Common.{map, ◌≡◌, ℕ, zero, suc, ◌≤◌, Bool, true, false, cond, List, ◌∷◌, ◌++◌, length, Option, Some, None, refl, sym, ap, ◌∙◌, subst, arith, append_assoc}
use Rattle.std.specs.Prelude.{◌&&◌, nat_le, codes}
use Rattle.pr_value.specs.Capped.{cap}
use Rattle.pr_value.specs.Symbols.{Symbol, is_symbol}
use Rattle.pr_value.specs.declared.token.Token.TheVariants as token
use Rattle.pr_value.specs.declared.token.Mark.{Mark}
use Rattle.pr_value.specs.declared.token.Mark.TheVariants as mark
use Rattle.rule_ast.specs.declared.expr.BinOp.{BinOp}
use Rattle.rule_ast.specs.declared.expr.BinOp.TheVariants as op
use Rattle.rule_ast.specs.declared.expr.FoldKind.{FoldKind}
use Rattle.rule_ast.specs.declared.expr.FoldKind.TheVariants as folding
use Rattle.rule_ast.specs.Syntax.{Expr, number, truth, symbol, set_of, list_of, var, call, binary, fold, Exprs}
use Rattle.rule_ast.specs.Syntax as syntax
use Rattle.rule_ast.specs.Seen.{exprs_of}
use Rattle.rule_syntax.specs.Tokens.{Text, m, commas, expr_tokens, exprs_tokens, binop_mark, truth_name, fold_name}
use Rattle.rule_ast.specs.Spelled.{is_free, spells_expr, spells_exprs}
use Rattle.rule_syntax.specs.Levels.{levels, list_levels}
use Rattle.rule_syntax.specs.Reading.{◌>>=◌, Reader, same_mark, mark_at, truth_of, fold_of, closed_at}
use Rattle.rule_syntax.specs.ReadingExpr.{named_at, parameter_at, each_at, folded_at, operand_at, binary_at, word_expr, level_at, expr_at}
use Rattle.rule_syntax.proofs.TokenLaws.{on_some, some_same, guard_some, both_true, and_true, mark_sound, word_sound, name_sound, name_complete, binop_sound, binop_complete, truth_named, fold_named, free_no_truth, free_no_fold}
use Rattle.rule_syntax.proofs.ListLaws.{Sound, Complete, Every, Good, Closes, closed_sound, closed_complete, good_every, every_spelled, every_shallow}
use Rattle.rule_syntax.proofs.PartLists.{list_from, from_list, exprs_tokens-list, spells_exprs-list, list_levels-list}

-- spelled, and of so many levels at most
abbrev pub GoodExpr : ℕ → Expr → Type 0
GoodExpr n = Good spells_expr levels n

-- a dot or a parenthesis goes on with a name
abbrev pub ends : Text → Bool
ends (token.Mark mark.Dot ∷ ts) = false
ends (token.Mark mark.OpenParen ∷ ts) = false
ends ts = true

abbrev pub Ends : Text → Type 0
Ends ts = ends ts ≡ true

-- a part is read, and what stands behind it
pub step : {A B : Type 0} (o : Option A) (f : A → Option B) (x : A) (y : Option B) → o ≡ Some x → f x ≡ y → (o >>= f) ≡ y
step o f x y h e = ap (λ p. p >>= f) h ∙ e

some_token : (e : Expr) → 1 ≤ length (expr_tokens e)
some_token (number n) = omega arith
some_token (truth b) = omega arith
some_token (symbol s) = omega arith
some_token (set_of es) = omega arith
some_token (list_of es) = omega arith
some_token (var x) = omega arith
some_token (syntax.read d p) = omega arith
some_token (call f es) = omega arith
some_token (binary a o b) = omega arith
some_token (fold k x over each) = omega arith

some_level : (e : Expr) → 1 ≤ levels e
some_level (number n) = omega arith
some_level (truth b) = omega arith
some_level (symbol s) = omega arith
some_level (set_of es) = omega arith
some_level (list_of es) = omega arith
some_level (var x) = omega arith
some_level (syntax.read d p) = omega arith
some_level (call f es) = omega arith
some_level (binary a o b) = omega arith
some_level (fold k x over each) = omega arith

-- no expression begins with a mark but these three
no_mark : (close : Mark) → same_mark mark.OpenBrace close ≡ false → same_mark mark.OpenBracket close ≡ false → same_mark mark.OpenParen close ≡ false → (e : Expr) (rest : Text) → mark_at close (expr_tokens e ++ rest) ≡ None
no_mark close a b c (number n) rest = refl
no_mark close a b c (truth x) rest = refl
no_mark close a b c (symbol s) rest = refl
no_mark close a b c (set_of es) rest = rw a refl
no_mark close a b c (list_of es) rest = rw b refl
no_mark close a b c (var x) rest = refl
no_mark close a b c (syntax.read d p) rest = refl
no_mark close a b c (call f es) rest = refl
no_mark close a b c (binary x o y) rest = rw c refl
no_mark close a b c (fold k x over each) rest = refl

closes_brace : Closes expr_tokens Ends mark.CloseBrace
closes_brace = record { itself = λ rest. refl; no_comma = λ rest. refl; no_part = no_mark mark.CloseBrace refl refl refl; ends = λ rest. refl }

closes_bracket : Closes expr_tokens Ends mark.CloseBracket
closes_bracket = record { itself = λ rest. refl; no_comma = λ rest. refl; no_part = no_mark mark.CloseBracket refl refl refl; ends = λ rest. refl }

closes_paren : Closes expr_tokens Ends mark.CloseParen
closes_paren = record { itself = λ rest. refl; no_comma = λ rest. refl; no_part = no_mark mark.CloseParen refl refl refl; ends = λ rest. refl }

-- what a part and what stands behind it spell, in one record
record Reads (n : ℕ) (ts : Text) (e : Expr) (rest : Text) : Type 0 where
  good : GoodExpr n e
  text : ts ≡ expr_tokens e ++ rest

-- a list between marks
record ReadsList (n : ℕ) (close : Mark) (ts : Text) (es : List Expr) (rest : Text) : Type 0 where
  spelled : spells_exprs (exprs_of es) ≡ true
  shallow : list_levels (exprs_of es) ≤ n
  text : ts ≡ commas (exprs_tokens (exprs_of es)) ++ m close ++ rest

list_sound : (n : ℕ) (read : Reader Expr) → Sound expr_tokens (GoodExpr n) read → (close : Mark) (ts : Text) (x : List Expr × Text) → closed_at read close ts ≡ Some x → ReadsList n close ts x.0 x.1
list_sound n read sound close ts x e =
    let p = closed_sound expr_tokens (GoodExpr n) read sound close ts x e in
    let few = every_shallow spells_expr levels n x.0 (p.0) in
    let same = list_levels-list x.0 in
    record {
      spelled = spells_exprs-list x.0 ∙ every_spelled spells_expr levels n x.0 (p.0);
      shallow = omega (arith, few, same);
      text = p.1 ∙ ap (λ us. commas us ++ token.Mark close ∷ x.1) (sym (exprs_tokens-list x.0)) ∙ sym (append_assoc (commas (exprs_tokens (exprs_of x.0))) (m close) x.1);
    }

named_sound : (n : ℕ) (read : Reader Expr) → Sound expr_tokens (GoodExpr n) read → (s : Symbol) → is_free s ≡ true → (ts : Text) (x : Expr × Text) → named_at read s ts ≡ Some x → Reads (suc n) (token.Name s ∷ ts) x.0 x.1
unfolding named_at
named_sound n read sound s free (token.Mark mark.OpenParen ∷ ts) x e =
    on_some _ _ x e (λ y h e.
    let l = list_sound n read sound mark.CloseParen ts y h in
    subst (λ (z : Expr × Text). Reads (suc n) (token.Name s ∷ token.Mark mark.OpenParen ∷ ts) z.0 z.1) (some_same (call s (exprs_of y.0), y.1) x e) (record {
      good = record { spelled = and_true (is_free s) (spells_exprs (exprs_of y.0)) free l.spelled; shallow = omega (arith, l.shallow) };
      text = ap (λ us. token.Name s ∷ token.Mark mark.OpenParen ∷ us) l.text;
    }))
named_sound n read sound s free (token.Mark mark.Dot ∷ ts) x e =
    on_some _ _ x e (λ p h e.
    let l = name_sound ts p h in
    subst (λ (z : Expr × Text). Reads (suc n) (token.Name s ∷ token.Mark mark.Dot ∷ ts) z.0 z.1) (some_same (syntax.read s p.0, p.1) x e) (record {
      good = record { spelled = and_true (is_free s) (is_free p.0) free (l.0); shallow = omega arith };
      text = ap (λ us. token.Name s ∷ token.Mark mark.Dot ∷ us) (l.1);
    }))
named_sound n read sound s free ts x e =
    subst (λ (y : Expr × Text). Reads (suc n) (token.Name s ∷ ts) y.0 y.1) (some_same (var s, ts) x e) (record { good = record { spelled = free; shallow = omega arith }; text = refl })

binary_text : (a : Expr) (o : BinOp) (b : Expr) (rest : Text) → expr_tokens (binary a o b) ++ rest
    ≡ token.Mark mark.OpenParen ∷ (expr_tokens a ++ token.Mark (binop_mark o) ∷ (expr_tokens b ++ token.Mark mark.CloseParen ∷ rest))
binary_text a o b rest = simp append_assoc

operand_sound : (n : ℕ) (read : Reader Expr) → Sound expr_tokens (GoodExpr n) read → (ts : Text) (x : (BinOp × Expr) × Text) → operand_at read ts ≡ Some x
    → GoodExpr n x.0.1 × (ts ≡ token.Mark (binop_mark x.0.0) ∷ (expr_tokens x.0.1 ++ token.Mark mark.CloseParen ∷ x.1))
unfolding operand_at
operand_sound n read sound ts x e =
    on_some _ _ x e (λ o h2 e. on_some _ _ x e (λ b h3 e. on_some _ _ x e (λ r h4 e.
    let sb = sound o.1 b h3 in
    subst (λ (y : (BinOp × Expr) × Text). GoodExpr n y.0.1 × (ts ≡ token.Mark (binop_mark y.0.0) ∷ (expr_tokens y.0.1 ++ token.Mark mark.CloseParen ∷ y.1))) (some_same ((o.0, b.0), r) x e)
    (sb.0, binop_sound ts o h2 ∙ ap (λ us. token.Mark (binop_mark o.0) ∷ us) (sb.1 ∙ ap (λ us. expr_tokens b.0 ++ us) (mark_sound mark.CloseParen b.1 r h4))))))

binary_sound : (n : ℕ) (read : Reader Expr) → Sound expr_tokens (GoodExpr n) read → (ts : Text) (x : Expr × Text) → binary_at read ts ≡ Some x → Reads (suc n) (token.Mark mark.OpenParen ∷ ts) x.0 x.1
unfolding binary_at
binary_sound n read sound ts x e =
    on_some _ _ x e (λ a h1 e. on_some _ _ x e (λ y h2 e.
    let sa = sound ts a h1 in
    let sb = operand_sound n read sound a.1 y h2 in
    let la = sa.0.shallow in
    let lb = sb.0.shallow in
    subst (λ (z : Expr × Text). Reads (suc n) (token.Mark mark.OpenParen ∷ ts) z.0 z.1) (some_same (binary a.0 y.0.0 y.0.1, y.1) x e) (record {
      good = record { spelled = and_true (spells_expr a.0) (spells_expr y.0.1) (sa.0.spelled) (sb.0.spelled); shallow = omega (arith, la, lb) };
      text = ap (λ us. token.Mark mark.OpenParen ∷ us) (sa.1 ∙ ap (λ us. expr_tokens a.0 ++ us) (sb.1)) ∙ sym (binary_text a.0 y.0.0 y.0.1 y.1);
    })))

fold_text : (k : FoldKind) (x : Symbol) (over each : Expr) (rest : Text) → expr_tokens (fold k x over each) ++ rest
    ≡ token.Name (fold_name k) ∷ token.Mark mark.OpenParen ∷ token.Name x ∷ token.Name (codes "in") ∷ (expr_tokens over ++ token.Mark mark.Colon ∷ (expr_tokens each ++ token.Mark mark.CloseParen ∷ rest))
fold_text k x over each rest = simp append_assoc

good_fold : (n : ℕ) (k : FoldKind) (x : Symbol) (over each : Expr) → is_free x ≡ true → GoodExpr n over → GoodExpr n each → GoodExpr (suc n) (fold k x over each)
good_fold n k x over each free a b =
    let la = a.shallow in
    let lb = b.shallow in
    record { spelled = and_true (is_free x && spells_expr over) (spells_expr each) (and_true (is_free x) (spells_expr over) free a.spelled) b.spelled; shallow = omega (arith, la, lb) }

parameter_sound : (ts : Text) (x : Symbol × Text) → parameter_at ts ≡ Some x → (is_free x.0 ≡ true) × (ts ≡ token.Mark mark.OpenParen ∷ token.Name x.0 ∷ token.Name (codes "in") ∷ x.1)
unfolding parameter_at
parameter_sound ts x e =
    on_some _ _ x e (λ r h1 e. on_some _ _ x e (λ y h2 e. on_some _ _ x e (λ s h3 e.
    let sy = name_sound r y h2 in
    subst (λ (z : Symbol × Text). (is_free z.0 ≡ true) × (ts ≡ token.Mark mark.OpenParen ∷ token.Name z.0 ∷ token.Name (codes "in") ∷ z.1)) (some_same (y.0, s) x e)
    (sy.0, mark_sound mark.OpenParen ts r h1 ∙ ap (λ us. token.Mark mark.OpenParen ∷ us) (sy.1 ∙ ap (λ us. token.Name y.0 ∷ us) (word_sound (codes "in") y.1 s h3))))))

each_sound : (n : ℕ) (read : Reader Expr) → Sound expr_tokens (GoodExpr n) read → (ts : Text) (x : Expr × Text) → each_at read ts ≡ Some x
    → GoodExpr n x.0 × (ts ≡ token.Mark mark.Colon ∷ (expr_tokens x.0 ++ token.Mark mark.CloseParen ∷ x.1))
unfolding each_at
each_sound n read sound ts x e =
    on_some _ _ x e (λ t h1 e. on_some _ _ x e (λ b h2 e. on_some _ _ x e (λ u h3 e.
    let sb = sound t b h2 in
    subst (λ (z : Expr × Text). GoodExpr n z.0 × (ts ≡ token.Mark mark.Colon ∷ (expr_tokens z.0 ++ token.Mark mark.CloseParen ∷ z.1))) (some_same (b.0, u) x e)
    (sb.0, mark_sound mark.Colon ts t h1 ∙ ap (λ us. token.Mark mark.Colon ∷ us) (sb.1 ∙ ap (λ us. expr_tokens b.0 ++ us) (mark_sound mark.CloseParen b.1 u h3))))))

folded_sound : (n : ℕ) (read : Reader Expr) → Sound expr_tokens (GoodExpr n) read → (k : FoldKind) (ts : Text) (x : Expr × Text) → folded_at read k ts ≡ Some x → Reads (suc n) (token.Name (fold_name k) ∷ ts) x.0 x.1
unfolding folded_at
folded_sound n read sound k ts x e =
    on_some _ _ x e (λ y h1 e. on_some _ _ x e (λ o h2 e. on_some _ _ x e (λ b h3 e.
    let sy = parameter_sound ts y h1 in
    let so = sound y.1 o h2 in
    let sb = each_sound n read sound o.1 b h3 in
    subst (λ (z : Expr × Text). Reads (suc n) (token.Name (fold_name k) ∷ ts) z.0 z.1) (some_same (fold k y.0 o.0 b.0, b.1) x e) (record {
      good = good_fold n k y.0 o.0 b.0 (sy.0) (so.0) (sb.0);
      text = ap (λ us. token.Name (fold_name k) ∷ us) (sy.1 ∙ ap (λ us. token.Mark mark.OpenParen ∷ token.Name y.0 ∷ token.Name (codes "in") ∷ us) (so.1 ∙ ap (λ us. expr_tokens o.0 ++ us) (sb.1)))
          ∙ sym (fold_text k y.0 o.0 b.0 b.1);
    }))))

word_expr_sound : (n : ℕ) (read : Reader Expr) → Sound expr_tokens (GoodExpr n) read → (s : Symbol) (ts : Text) (b : Option Bool) (k : Option FoldKind) → truth_of s ≡ b → fold_of s ≡ k → (x : Expr × Text) → word_expr read s ts b k ≡ Some x
    → Reads (suc n) (token.Name s ∷ ts) x.0 x.1
word_expr_sound n read sound s ts (Some b) k p q x e =
    subst (λ (y : Expr × Text). Reads (suc n) (token.Name s ∷ ts) y.0 y.1) (some_same (truth b, ts) x e)
    (record { good = record { spelled = refl; shallow = omega arith }; text = ap (λ w. token.Name w ∷ ts) (truth_named s b p) })
word_expr_sound n read sound s ts None (Some k) p q x e =
    subst (λ (w : Symbol). Reads (suc n) (token.Name w ∷ ts) x.0 x.1) (sym (fold_named s k q)) (folded_sound n read sound k ts x e)
word_expr_sound n read sound s ts None None p q x e = let g = guard_some (is_free s) (named_at read s ts) x e in named_sound n read sound s (g.0) ts x (g.1)

level_sound : (n : ℕ) (read : Reader Expr) → Sound expr_tokens (GoodExpr n) read → (ts : Text) (x : Expr × Text) → level_at read ts ≡ Some x → Reads (suc n) ts x.0 x.1
level_sound n read sound (token.Number k ∷ ts) x e =
    let g = guard_some (nat_le k cap) (Some (number k, ts)) x e in
    subst (λ (y : Expr × Text). Reads (suc n) (token.Number k ∷ ts) y.0 y.1) (some_same (number k, ts) x (g.1)) (record { good = record { spelled = g.0; shallow = omega arith }; text = refl })
level_sound n read sound (token.Quoted s ∷ ts) x e =
    let g = guard_some (is_symbol s) (Some (symbol s, ts)) x e in
    subst (λ (y : Expr × Text). Reads (suc n) (token.Quoted s ∷ ts) y.0 y.1) (some_same (symbol s, ts) x (g.1)) (record { good = record { spelled = g.0; shallow = omega arith }; text = refl })
level_sound n read sound (token.Name s ∷ ts) x e = word_expr_sound n read sound s ts (truth_of s) (fold_of s) refl refl x e
level_sound n read sound (token.Mark mark.OpenBrace ∷ ts) x e =
    on_some _ _ x e (λ y h e.
    let l = list_sound n read sound mark.CloseBrace ts y h in
    subst (λ (z : Expr × Text). Reads (suc n) (token.Mark mark.OpenBrace ∷ ts) z.0 z.1) (some_same (set_of (exprs_of y.0), y.1) x e)
    (record { good = record { spelled = l.spelled; shallow = omega (arith, l.shallow) }; text = ap (λ us. token.Mark mark.OpenBrace ∷ us) l.text }))
level_sound n read sound (token.Mark mark.OpenBracket ∷ ts) x e =
    on_some _ _ x e (λ y h e.
    let l = list_sound n read sound mark.CloseBracket ts y h in
    subst (λ (z : Expr × Text). Reads (suc n) (token.Mark mark.OpenBracket ∷ ts) z.0 z.1) (some_same (list_of (exprs_of y.0), y.1) x e)
    (record { good = record { spelled = l.spelled; shallow = omega (arith, l.shallow) }; text = ap (λ us. token.Mark mark.OpenBracket ∷ us) l.text }))
level_sound n read sound (token.Mark mark.OpenParen ∷ ts) x e = binary_sound n read sound ts x e
level_sound n read sound ts x e = cc

pub expr_sound : (n : ℕ) → Sound expr_tokens (GoodExpr n) (expr_at n)
unfolding expr_at
expr_sound zero ts x e = cc
expr_sound (suc n) ts x e = let r = level_sound n (expr_at n) (expr_sound n) ts x e in (r.good, r.text)

-- a list in the text, as the readers want it
list_text : (close : Mark) (es : Exprs) (rest : Text) → commas (exprs_tokens es) ++ m close ++ rest ≡ commas (map expr_tokens (list_from es)) ++ token.Mark close ∷ rest
list_text close es rest =
    append_assoc (commas (exprs_tokens es)) (m close) rest ∙
    ap (λ us. commas us ++ token.Mark close ∷ rest) (ap exprs_tokens (sym (from_list es)) ∙ exprs_tokens-list (list_from es))

good_list : (n : ℕ) (es : Exprs) → spells_exprs es ≡ true → list_levels es ≤ n → Every (GoodExpr n) (list_from es)
good_list n es spelled shallow =
    let same = list_levels-list (list_from es) in
    let again = ap list_levels (from_list es) in
    good_every spells_expr levels n (list_from es) (sym (spells_exprs-list (list_from es)) ∙ ap spells_exprs (from_list es) ∙ spelled) (omega (arith, same, again, shallow))

list_complete : (n : ℕ) (read : Reader Expr) → Complete expr_tokens (GoodExpr n) Ends read → (close : Mark) → Closes expr_tokens Ends close → (es : Exprs) → spells_exprs es ≡ true → list_levels es ≤ n → (rest : Text)
    → closed_at read close (commas (exprs_tokens es) ++ m close ++ rest) ≡ Some (list_from es, rest)
list_complete n read complete close c es spelled shallow rest =
    ap (closed_at read close) (list_text close es rest) ∙ closed_complete expr_tokens (GoodExpr n) Ends read complete (λ ts. refl) some_token close c (list_from es) (good_list n es spelled shallow) rest

-- behind a variable stands nothing that goes on with it
var_complete : (read : Reader Expr) (s : Symbol) (rest : Text) → Ends rest → named_at read s rest ≡ Some (var s, rest)
unfolding named_at
var_complete read s (token.Mark mark.OpenParen ∷ ts) h = cc
var_complete read s (token.Mark mark.Dot ∷ ts) h = cc
var_complete read s ts h = refl

call_complete : (n : ℕ) (read : Reader Expr) → Complete expr_tokens (GoodExpr n) Ends read → (f : Symbol) (es : Exprs) → spells_exprs es ≡ true → list_levels es ≤ n → (rest : Text)
    → named_at read f (token.Mark mark.OpenParen ∷ (commas (exprs_tokens es) ++ m mark.CloseParen ++ rest)) ≡ Some (call f es, rest)
unfolding named_at
call_complete n read complete f es spelled shallow rest = step _ _ _ _ (list_complete n read complete mark.CloseParen closes_paren es spelled shallow rest) (ap (λ us. Some (call f us, rest)) (from_list es))

read_complete : (read : Reader Expr) (d p : Symbol) → is_free p ≡ true → (rest : Text) → named_at read d (token.Mark mark.Dot ∷ token.Name p ∷ rest) ≡ Some (syntax.read d p, rest)
unfolding named_at
read_complete read d p free rest = step _ _ _ _ (name_complete p rest free) refl

op_ends : (o : BinOp) (ts : Text) → Ends (token.Mark (binop_mark o) ∷ ts)
op_ends op.Add ts = refl
op_ends op.Sub ts = refl
op_ends op.Mul ts = refl
op_ends op.Div ts = refl
op_ends op.Equal ts = refl
op_ends op.NotEqual ts = refl
op_ends op.Less ts = refl
op_ends op.LessEqual ts = refl
op_ends op.Greater ts = refl
op_ends op.GreaterEqual ts = refl
op_ends op.And ts = refl
op_ends op.Or ts = refl

binary_complete : (n : ℕ) (read : Reader Expr) → Complete expr_tokens (GoodExpr n) Ends read → (a : Expr) (o : BinOp) (b : Expr) → GoodExpr n a → GoodExpr n b → (rest : Text)
    → binary_at read (expr_tokens a ++ token.Mark (binop_mark o) ∷ (expr_tokens b ++ token.Mark mark.CloseParen ∷ rest)) ≡ Some (binary a o b, rest)
unfolding binary_at operand_at
binary_complete n read complete a o b ga gb rest =
    let close = token.Mark mark.CloseParen ∷ rest in
    let behind_op = expr_tokens b ++ close in
    let operand = step _ _ _ (Some ((o, b), rest)) (binop_complete o behind_op) (step _ _ _ _ (complete b gb close refl) refl) in
    step _ _ _ _ (complete a ga (token.Mark (binop_mark o) ∷ behind_op) (op_ends o behind_op)) (step _ _ _ _ operand refl)

folded_complete : (n : ℕ) (read : Reader Expr) → Complete expr_tokens (GoodExpr n) Ends read → (k : FoldKind) (x : Symbol) (over each : Expr) → is_free x ≡ true → GoodExpr n over → GoodExpr n each → (rest : Text)
    → folded_at read k (token.Mark mark.OpenParen ∷ token.Name x ∷ token.Name (codes "in") ∷ (expr_tokens over ++ token.Mark mark.Colon ∷ (expr_tokens each ++ token.Mark mark.CloseParen ∷ rest))) ≡ Some (fold k x over each, rest)
unfolding folded_at parameter_at each_at
folded_complete n read complete k x over each free go ge rest =
    let close = token.Mark mark.CloseParen ∷ rest in
    let behind_over = token.Mark mark.Colon ∷ (expr_tokens each ++ close) in
    let parameter = step _ _ _ (Some (x, expr_tokens over ++ behind_over)) (name_complete x (token.Name (codes "in") ∷ (expr_tokens over ++ behind_over)) free) refl in
    let every = step _ _ _ (Some (each, rest)) (complete each ge close refl) refl in
    step _ _ _ _ parameter (step _ _ _ _ (complete over go behind_over refl) (step _ _ _ _ every refl))

-- what each word begins
truth_word : (read : Reader Expr) (b : Bool) (ts : Text) → word_expr read (truth_name b) ts (truth_of (truth_name b)) (fold_of (truth_name b)) ≡ Some (truth b, ts)
truth_word read true ts = refl
truth_word read false ts = refl

fold_word : (read : Reader Expr) (k : FoldKind) (ts : Text) → word_expr read (fold_name k) ts (truth_of (fold_name k)) (fold_of (fold_name k)) ≡ folded_at read k ts
fold_word read folding.Sum ts = refl
fold_word read folding.Product ts = refl
fold_word read folding.Any ts = refl
fold_word read folding.All ts = refl
fold_word read folding.Keep ts = refl

free_word : (read : Reader Expr) (s : Symbol) (ts : Text) → is_free s ≡ true → word_expr read s ts (truth_of s) (fold_of s) ≡ named_at read s ts
free_word read s ts free =
    ap (λ b. word_expr read s ts b (fold_of s)) (free_no_truth s free) ∙ ap (λ k. word_expr read s ts None k) (free_no_fold s free) ∙ ap (λ b. cond b (named_at read s ts) None) free

level_complete : (n : ℕ) (read : Reader Expr) → Complete expr_tokens (GoodExpr n) Ends read → (e : Expr) → GoodExpr (suc n) e → (rest : Text) → Ends rest → level_at read (expr_tokens e ++ rest) ≡ Some (e, rest)
level_complete n read complete (number k) good rest h = ap (λ b. cond b (Some (number k, rest)) None) good.spelled
level_complete n read complete (truth b) good rest h = truth_word read b rest
level_complete n read complete (symbol s) good rest h = ap (λ b. cond b (Some (symbol s, rest)) None) good.spelled
level_complete n read complete (set_of es) good rest h =
    step _ _ _ _ (list_complete n read complete mark.CloseBrace closes_brace es good.spelled (omega (arith, good.shallow)) rest) (ap (λ us. Some (set_of us, rest)) (from_list es))
level_complete n read complete (list_of es) good rest h =
    step _ _ _ _ (list_complete n read complete mark.CloseBracket closes_bracket es good.spelled (omega (arith, good.shallow)) rest) (ap (λ us. Some (list_of us, rest)) (from_list es))
level_complete n read complete (var x) good rest h = free_word read x rest good.spelled ∙ var_complete read x rest h
level_complete n read complete (syntax.read d p) good rest h =
    let f = both_true (is_free d) (is_free p) good.spelled in
    free_word read d (token.Mark mark.Dot ∷ token.Name p ∷ rest) (f.0) ∙ read_complete read d p (f.1) rest
level_complete n read complete (call f es) good rest h =
    let p = both_true (is_free f) (spells_exprs es) good.spelled in
    free_word read f (token.Mark mark.OpenParen ∷ (commas (exprs_tokens es) ++ m mark.CloseParen ++ rest)) (p.0) ∙ call_complete n read complete f es (p.1) (omega (arith, good.shallow)) rest
level_complete n read complete (binary a o b) good rest h =
    let p = both_true (spells_expr a) (spells_expr b) good.spelled in
    let s = good.shallow in
    ap (level_at read) (binary_text a o b rest) ∙ binary_complete n read complete a o b (record { spelled = p.0; shallow = omega (arith, s) }) (record { spelled = p.1; shallow = omega (arith, s) }) rest
level_complete n read complete (fold k x over each) good rest h =
    let p = both_true (is_free x && spells_expr over) (spells_expr each) good.spelled in
    let q = both_true (is_free x) (spells_expr over) (p.0) in
    let s = good.shallow in
    let behind_over = token.Mark mark.Colon ∷ (expr_tokens each ++ token.Mark mark.CloseParen ∷ rest) in
    ap (level_at read) (fold_text k x over each rest) ∙ fold_word read k (token.Mark mark.OpenParen ∷ token.Name x ∷ token.Name (codes "in") ∷ (expr_tokens over ++ behind_over)) ∙
    folded_complete n read complete k x over each (q.0) (record { spelled = q.1; shallow = omega (arith, s) }) (record { spelled = p.1; shallow = omega (arith, s) }) rest

pub expr_complete : (n : ℕ) → Complete expr_tokens (GoodExpr n) Ends (expr_at n)
unfolding expr_at
expr_complete zero e good rest h = let s = good.shallow in let l = some_level e in absurd (omega (arith, s, l))
expr_complete (suc n) e good rest h = level_complete n (expr_at n) (expr_complete n) e good rest h
