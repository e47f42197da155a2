-- What printing puts behind what is printed so far, piece by piece.
use Rattle.std.proofs.Common.{map, ◌≡◌, ℕ, ◌+◌, ◌<◌, List, [], ◌∷◌, ◌++◌, length, take, get_or, flat_map, refl, sym, ap, ◌∙◌, arith, append_assoc}
use Rattle.std.specs.Prelude.{codes}
use Rattle.std.proofs.lemmas.List.{length-map, length-take-le, take_more}
use Rattle.std.proofs.lemmas.List.Folds.{flat_map-map}
use Rattle.pr_value.specs.TokenTexts.{token_text, spaced}
use Rattle.pr_value.specs.declared.token.Token.{Token}
use Rattle.pr_value.specs.declared.token.Mark.{Mark}
use Rattle.pr_value.specs.declared.token.Mark.TheVariants.{Comma}
use Rattle.pr_value.specs.declared.token.Mark.TheVariants as mark
use Rattle.pr_value.specs.Symbols.{Symbol}
use Rattle.pr_value.specs.Trees.{Tree, tree, trees_of}
use Rattle.rule_syntax.specs.Separators.{before_part}
use Rattle.rule_syntax.specs.Tokens.{Text, m, name, commas, expr_tokens, exprs_tokens, binop_mark, fold_name, left_tokens, lefts_tokens, right_tokens, rights_tokens, stmt_tokens, block, property_tokens, operator_tokens, algorithm_tokens, helper_tokens, trule_tokens, irule_tokens, tokens_of}
use Rattle.rule_ast.specs.Syntax.{LeftLabel, RightLabel}
use Rattle.rule_ast.specs.Seen.{seen_expr, exprs_of, seen_stmt, seen_operator, seen_helper, seen_trule, seen_irule, seen_left, seen_left_in, left_level, left_input_level, seen_right, seen_right_in, right_level, right_input_level}
use Rattle.rule_ast.specs.SeenRules.{seen_rules}
use Rattle.rule_ast.specs.declared.expr.Stmt as stmt
use Rattle.pr_value.specs.declared.property.Property.{Property}
use Rattle.rule_ast.specs.declared.parts.Operator as operator
use Rattle.rule_ast.specs.declared.parts.Algorithm.{Algorithm}
use Rattle.rule_ast.specs.declared.parts.Helper as helper
use Rattle.rule_ast.specs.declared.parts.TRule as trule
use Rattle.rule_ast.specs.declared.parts.IRule as irule
use Rattle.rule_ast.specs.declared.rule_set.Rules as rules
use Rattle.rule_ast.specs.declared.expr.BinOp.{BinOp}
use Rattle.rule_ast.specs.declared.expr.FoldKind.{FoldKind}
use Rattle.rule_ast.specs.declared.expr.Expr as rust
use Rattle.rule_ast.specs.declared.expr.Expr.TheVariants as variant
use Rattle.rule_ast.specs.declared.sides.Left as left
use Rattle.rule_ast.specs.declared.sides.Left.{out-Left}
use Rattle.rule_ast.specs.declared.sides.LeftIn as left_in
use Rattle.rule_ast.specs.declared.sides.LeftIn.TheFolds.{fold_out-Left}
use Rattle.rule_ast.specs.declared.sides.Right as right
use Rattle.rule_ast.specs.declared.sides.Right.{out-Right}
use Rattle.rule_ast.specs.declared.sides.RightIn as right_in
use Rattle.rule_ast.specs.declared.sides.RightIn.TheFolds.{fold_out-Right}
use Rattle.rule_syntax.proofs.Opening.{map_push}
use Rattle.rule_ast.proofs.SeenLaws.{seen_set, seen_list, seen_call, seen_binary, seen_fold}

-- one more part behind others
pub commas_push : (ts : List Text) (t : Text) → commas (ts ++ t ∷ []) ≡ commas ts ++ (before_part (length ts) (m Comma) ++ t)
commas_push [] t = refl
commas_push (u ∷ []) t = append_assoc u (m Comma) t
commas_push (u ∷ v ∷ ts) t = ap (λ x. u ++ m Comma ++ x) (commas_push (v ∷ ts) t) ∙ sym (append_assoc (u ++ m Comma) (commas (v ∷ ts)) (m Comma ++ t))

pub spaced_push : (ts : Text) (t : Token) → spaced (ts ++ t ∷ []) ≡ spaced ts ++ (before_part (length ts) (codes " ") ++ token_text t)
spaced_push [] t = refl
spaced_push (u ∷ []) t = append_assoc (token_text u) (codes " ") (token_text t)
spaced_push (u ∷ v ∷ ts) t =
    ap (λ x. token_text u ++ codes " " ++ x) (spaced_push (v ∷ ts) t) ∙ sym (append_assoc (token_text u ++ codes " ") (spaced (v ∷ ts)) (codes " " ++ token_text t))

-- what pushes in a row put there
pieces_3 : {A : Type 0} (old t0 t1 t2 a b c : List A) → t0 ≡ old ++ a → t1 ≡ t0 ++ b → t2 ≡ t1 ++ c → t2 ≡ old ++ (a ++ (b ++ c))
pieces_3 old t0 t1 t2 a b c e0 e1 e2 = e2 ∙ ap (λ t. t ++ c) (e1 ∙ ap (λ t. t ++ b) e0) ∙ append_assoc (old ++ a) b c ∙ append_assoc old a (b ++ c)

-- one more push
push_piece : {A : Type 0} (old t u a b : List A) → t ≡ old ++ a → u ≡ t ++ b → u ≡ old ++ (a ++ b)
push_piece old t u a b e f = f ∙ ap (λ x. x ++ b) e ∙ append_assoc old a b

count_taken : {A : Type 0} (xs : List A) (i : ℕ) → i < length xs → length (take i xs) ≡ i
count_taken xs i within = length-take-le i xs (omega arith)

next_taken : {A : Type 0} (xs : List A) (i : ℕ) (x : A) → i < length xs → x ≡ get_or xs i x → take (i + 1) xs ≡ take i xs ++ x ∷ []
next_taken xs i x within is = take_more xs i x within ∙ ap (λ y. take i xs ++ y ∷ []) (sym is)

-- a turn of a loop over parts with commas between
pub commas_step : {A : Type 0} (f : A → Text) (xs : List A) (i : ℕ) (x : A) (old t0 t1 t2 : Text) → i < length xs → x ≡ get_or xs i x → t0 ≡ old ++ commas (map f (take i xs)) → t1 ≡ t0 ++ before_part i (m Comma) → t2 ≡ t1 ++ f x
    → t2 ≡ old ++ commas (map f (take (i + 1) xs))
commas_step f xs i x old t0 t1 t2 within is e0 e1 e2 =
    let mapped : map f (take (i + 1) xs) ≡ map f (take i xs) ++ f x ∷ [] = ap (map f) (next_taken xs i x within is) ∙ map_push f (take i xs) x in
    let count : length (map f (take i xs)) ≡ i = length-map (take i xs) f ∙ count_taken xs i within in
    let pushed : commas (map f (take (i + 1) xs)) ≡ commas (map f (take i xs)) ++ (before_part i (m Comma) ++ f x) =
    ap commas mapped ∙ commas_push (map f (take i xs)) (f x) ∙ ap (λ n. commas (map f (take i xs)) ++ (before_part n (m Comma) ++ f x)) count in
    pieces_3 old t0 t1 t2 (commas (map f (take i xs))) (before_part i (m Comma)) (f x) e0 e1 e2 ∙ ap (λ t. old ++ t) (sym pushed)

-- the same over tokens with blanks between
pub spaced_step : (xs : Text) (i : ℕ) (x : Token) (old t0 t1 t2 : List ℕ) → i < length xs → x ≡ get_or xs i x → t0 ≡ old ++ spaced (take i xs) → t1 ≡ t0 ++ before_part i (codes " ") → t2 ≡ t1 ++ token_text x
    → t2 ≡ old ++ spaced (take (i + 1) xs)
spaced_step xs i x old t0 t1 t2 within is e0 e1 e2 =
    let pushed : spaced (take (i + 1) xs) ≡ spaced (take i xs) ++ (before_part i (codes " ") ++ token_text x) =
    ap spaced (next_taken xs i x within is) ∙ spaced_push (take i xs) x ∙ ap (λ n. spaced (take i xs) ++ (before_part n (codes " ") ++ token_text x)) (count_taken xs i within) in
    pieces_3 old t0 t1 t2 (spaced (take i xs)) (before_part i (codes " ")) (token_text x) e0 e1 e2 ∙ ap (λ t. old ++ t) (sym pushed)

pub pieces_4 : {A : Type 0} (old t1 t2 t3 t4 a b c d : List A) → t1 ≡ old ++ a → t2 ≡ t1 ++ b → t3 ≡ t2 ++ c → t4 ≡ t3 ++ d → t4 ≡ old ++ (a ++ (b ++ (c ++ d)))
pieces_4 old t1 t2 t3 t4 a b c d e1 e2 e3 e4 = pieces_3 t1 t2 t3 t4 b c d e2 e3 e4 ∙ ap (λ t. t ++ (b ++ (c ++ d))) e1 ∙ append_assoc old a (b ++ (c ++ d))

pieces_5 : {A : Type 0} (old t1 t2 t3 t4 t5 a b c d e : List A) → t1 ≡ old ++ a → t2 ≡ t1 ++ b → t3 ≡ t2 ++ c → t4 ≡ t3 ++ d → t5 ≡ t4 ++ e → t5 ≡ old ++ (a ++ (b ++ (c ++ (d ++ e))))
pieces_5 old t1 t2 t3 t4 t5 a b c d e e1 e2 e3 e4 e5 = pieces_4 t1 t2 t3 t4 t5 b c d e e2 e3 e4 e5 ∙ ap (λ t. t ++ (b ++ (c ++ (d ++ e)))) e1 ∙ append_assoc old a (b ++ (c ++ (d ++ e)))

-- ---- expressions

exprs_seen : (es : List rust.Expr) → exprs_tokens (exprs_of (map seen_expr es)) ≡ map (λ e. expr_tokens (seen_expr e)) es
exprs_seen [] = refl
exprs_seen (e ∷ es) = ap (λ ts. expr_tokens (seen_expr e) ∷ ts) (exprs_seen es)

-- the texts of expressions with commas between
abbrev pub exprs_text : List rust.Expr → Text
exprs_text es = commas (map (λ e. expr_tokens (seen_expr e)) es)

members_text : (es : List rust.Expr) → commas (exprs_tokens (exprs_of (map seen_expr es))) ≡ exprs_text es
members_text es = ap commas (exprs_seen es)

pub set_pieces : (e : rust.Expr) (es ss : List rust.Expr) (old t0 t1 t2 : Text) → e ≡ variant.SetOf es → ss ≡ es → t0 ≡ old ++ m mark.OpenBrace → t1 ≡ t0 ++ exprs_text ss → t2 ≡ t1 ++ m mark.CloseBrace → t2 ≡ old ++ expr_tokens (seen_expr e)
set_pieces e es ss old t0 t1 t2 is same e0 e1 e2 =
    let text : expr_tokens (seen_expr e) ≡ m mark.OpenBrace ++ (exprs_text ss ++ m mark.CloseBrace) =
    ap (λ (x : rust.Expr). expr_tokens (seen_expr x)) is ∙ ap expr_tokens (seen_set es) ∙ ap (λ (t : Text). m mark.OpenBrace ++ (t ++ m mark.CloseBrace)) (members_text es ∙ ap exprs_text (sym same)) in
    pieces_3 old t0 t1 t2 (m mark.OpenBrace) (exprs_text ss) (m mark.CloseBrace) e0 e1 e2 ∙ ap (λ t. old ++ t) (sym text)

pub list_pieces : (e : rust.Expr) (es ss : List rust.Expr) (old t0 t1 t2 : Text) → e ≡ variant.ListOf es → ss ≡ es → t0 ≡ old ++ m mark.OpenBracket → t1 ≡ t0 ++ exprs_text ss → t2 ≡ t1 ++ m mark.CloseBracket → t2 ≡ old ++ expr_tokens (seen_expr e)
list_pieces e es ss old t0 t1 t2 is same e0 e1 e2 =
    let text : expr_tokens (seen_expr e) ≡ m mark.OpenBracket ++ (exprs_text ss ++ m mark.CloseBracket) =
    ap (λ (x : rust.Expr). expr_tokens (seen_expr x)) is ∙ ap expr_tokens (seen_list es) ∙ ap (λ (t : Text). m mark.OpenBracket ++ (t ++ m mark.CloseBracket)) (members_text es ∙ ap exprs_text (sym same)) in
    pieces_3 old t0 t1 t2 (m mark.OpenBracket) (exprs_text ss) (m mark.CloseBracket) e0 e1 e2 ∙ ap (λ t. old ++ t) (sym text)

pub call_pieces : (e : rust.Expr) (f : Symbol) (es ss : List rust.Expr) (old t0 t1 t2 : Text) → e ≡ variant.Call f es → ss ≡ es → t0 ≡ old ++ (name f ++ m mark.OpenParen) → t1 ≡ t0 ++ exprs_text ss → t2 ≡ t1 ++ m mark.CloseParen → t2 ≡ old ++ expr_tokens (seen_expr e)
call_pieces e f es ss old t0 t1 t2 is same e0 e1 e2 =
    let text : expr_tokens (seen_expr e) ≡ (name f ++ m mark.OpenParen) ++ (exprs_text ss ++ m mark.CloseParen) =
    ap (λ (x : rust.Expr). expr_tokens (seen_expr x)) is ∙ ap expr_tokens (seen_call f es) ∙ ap (λ (t : Text). (name f ++ m mark.OpenParen) ++ (t ++ m mark.CloseParen)) (members_text es ∙ ap exprs_text (sym same)) in
    pieces_3 old t0 t1 t2 (name f ++ m mark.OpenParen) (exprs_text ss) (m mark.CloseParen) e0 e1 e2 ∙ ap (λ t. old ++ t) (sym text)

-- what stands between the parts of an expression with two
two_parts : (a b x y : rust.Expr) (opening middle ending whole old t1 t2 t3 t4 t5 : Text) → x ≡ a → y ≡ b → whole ≡ opening ++ (expr_tokens (seen_expr a) ++ (middle ++ (expr_tokens (seen_expr b) ++ ending))) → t1 ≡ old ++ opening → t2 ≡ t1 ++ expr_tokens (seen_expr x)
    → t3 ≡ t2 ++ middle → t4 ≡ t3 ++ expr_tokens (seen_expr y) → t5 ≡ t4 ++ ending → t5 ≡ old ++ whole
two_parts a b x y opening middle ending whole old t1 t2 t3 t4 t5 left right text e1 e2 e3 e4 e5 =
    let tokens : rust.Expr → Text = λ z. expr_tokens (seen_expr z) in
    pieces_5 old t1 t2 t3 t4 t5 opening (tokens a) middle (tokens b) ending e1 (e2 ∙ ap (λ z. t1 ++ tokens z) left) e3 (e4 ∙ ap (λ z. t3 ++ tokens z) right) e5 ∙ ap (λ t. old ++ t) (sym text)

pub binary_pieces : (e a b x y : rust.Expr) (o : BinOp) (k : Mark) (old t1 t2 t3 t4 t5 : Text) → e ≡ variant.Binary a o b → x ≡ a → y ≡ b → k ≡ binop_mark o → t1 ≡ old ++ m mark.OpenParen → t2 ≡ t1 ++ expr_tokens (seen_expr x) → t3 ≡ t2 ++ m k
    → t4 ≡ t3 ++ expr_tokens (seen_expr y) → t5 ≡ t4 ++ m mark.CloseParen → t5 ≡ old ++ expr_tokens (seen_expr e)
binary_pieces e a b x y o k old t1 t2 t3 t4 t5 is left right op e1 e2 e3 e4 e5 =
    let text : expr_tokens (seen_expr e) ≡ m mark.OpenParen ++ (expr_tokens (seen_expr a) ++ (m (binop_mark o) ++ (expr_tokens (seen_expr b) ++ m mark.CloseParen))) =
    ap (λ (z : rust.Expr). expr_tokens (seen_expr z)) is ∙ ap expr_tokens (seen_binary a o b) ∙ simp append_assoc in
    two_parts a b x y (m mark.OpenParen) (m (binop_mark o)) (m mark.CloseParen) (expr_tokens (seen_expr e)) old t1 t2 t3 t4 t5 left right text e1 e2 (e3 ∙ ap (λ z. t2 ++ m z) op) e4 e5

-- a fold up to what it goes over
abbrev pub fold_opening : FoldKind → Symbol → Text
fold_opening k x = name (fold_name k) ++ m mark.OpenParen ++ name x ++ name (codes "in")

pub fold_pieces : (e a b x y : rust.Expr) (k : FoldKind) (n : Symbol) (old t1 t2 t3 t4 t5 : Text) → e ≡ variant.Fold k n a b → x ≡ a → y ≡ b → t1 ≡ old ++ fold_opening k n → t2 ≡ t1 ++ expr_tokens (seen_expr x) → t3 ≡ t2 ++ m mark.Colon
    → t4 ≡ t3 ++ expr_tokens (seen_expr y) → t5 ≡ t4 ++ m mark.CloseParen → t5 ≡ old ++ expr_tokens (seen_expr e)
fold_pieces e a b x y k n old t1 t2 t3 t4 t5 is left right e1 e2 e3 e4 e5 =
    let text : expr_tokens (seen_expr e) ≡ fold_opening k n ++ (expr_tokens (seen_expr a) ++ (m mark.Colon ++ (expr_tokens (seen_expr b) ++ m mark.CloseParen))) =
    ap (λ (z : rust.Expr). expr_tokens (seen_expr z)) is ∙ ap expr_tokens (seen_fold k n a b) ∙ simp append_assoc in
    two_parts a b x y (fold_opening k n) (m mark.Colon) (m mark.CloseParen) (expr_tokens (seen_expr e)) old t1 t2 t3 t4 t5 left right text e1 e2 e3 e4 e5

-- ---- sides

-- a side behind its inputs
abbrev pub side_ending : Symbol → Text
side_ending d = m mark.CloseParen ++ (m mark.Colon ++ name d)

lefts_seen : (ls : List left_in.LeftIn) → lefts_tokens (trees_of (map seen_left_in ls)) ≡ map (λ x. left_tokens (seen_left_in x)) ls
lefts_seen [] = refl
lefts_seen (l ∷ ls) = ap (λ ts. left_tokens (seen_left_in l) ∷ ts) (lefts_seen ls)

abbrev pub lefts_text : List left_in.LeftIn → Text
lefts_text ls = commas (map (λ x. left_tokens (seen_left_in x)) ls)

seen_left_side : (l : left.Left) → seen_left l ≡ tree (LeftLabel.operator (out-Left l).op (out-Left l).desc) (map seen_left_in (out-Left l).inputs)
seen_left_side l = fold_out-Left (Tree LeftLabel) (Tree LeftLabel) left_input_level left_level l

pub left_pieces : (l : left.Left) (ls : List left_in.LeftIn) (old t0 t1 t2 : Text) → ls ≡ (out-Left l).inputs → t0 ≡ old ++ (name (out-Left l).op ++ m mark.OpenParen) → t1 ≡ t0 ++ lefts_text ls → t2 ≡ t1 ++ side_ending (out-Left l).desc → t2 ≡ old ++ left_tokens (seen_left l)
left_pieces l ls old t0 t1 t2 same e0 e1 e2 =
    let opening : Text = name (out-Left l).op ++ m mark.OpenParen in
    let ending : Text = side_ending (out-Left l).desc in
    let inputs : commas (lefts_tokens (trees_of (map seen_left_in (out-Left l).inputs))) ≡ lefts_text ls = ap commas (lefts_seen (out-Left l).inputs) ∙ ap lefts_text (sym same) in
    let text : left_tokens (seen_left l) ≡ opening ++ (lefts_text ls ++ ending) =
    ap left_tokens (seen_left_side l) ∙ ap (λ (t : Text). name (out-Left l).op ++ (m mark.OpenParen ++ t ++ m mark.CloseParen) ++ m mark.Colon ++ name (out-Left l).desc) inputs ∙ simp append_assoc in
    pieces_3 old t0 t1 t2 opening (lefts_text ls) ending e0 e1 e2 ∙ ap (λ t. old ++ t) (sym text)

rights_seen : (rs : List right_in.RightIn) → rights_tokens (trees_of (map seen_right_in rs)) ≡ map (λ x. right_tokens (seen_right_in x)) rs
rights_seen [] = refl
rights_seen (r ∷ rs) = ap (λ ts. right_tokens (seen_right_in r) ∷ ts) (rights_seen rs)

abbrev pub rights_text : List right_in.RightIn → Text
rights_text rs = commas (map (λ x. right_tokens (seen_right_in x)) rs)

seen_right_side : (r : right.Right) → seen_right r ≡ tree (RightLabel.operator (out-Right r).op (out-Right r).desc) (map seen_right_in (out-Right r).inputs)
seen_right_side r = fold_out-Right (Tree RightLabel) (Tree RightLabel) right_input_level right_level r

pub right_pieces : (r : right.Right) (rs : List right_in.RightIn) (old t0 t1 t2 : Text) → rs ≡ (out-Right r).inputs → t0 ≡ old ++ (name (out-Right r).op ++ m mark.OpenParen) → t1 ≡ t0 ++ rights_text rs → t2 ≡ t1 ++ side_ending (out-Right r).desc
    → t2 ≡ old ++ right_tokens (seen_right r)
right_pieces r rs old t0 t1 t2 same e0 e1 e2 =
    let opening : Text = name (out-Right r).op ++ m mark.OpenParen in
    let ending : Text = side_ending (out-Right r).desc in
    let inputs : commas (rights_tokens (trees_of (map seen_right_in (out-Right r).inputs))) ≡ rights_text rs = ap commas (rights_seen (out-Right r).inputs) ∙ ap rights_text (sym same) in
    let text : right_tokens (seen_right r) ≡ opening ++ (rights_text rs ++ ending) =
    ap right_tokens (seen_right_side r) ∙ ap (λ (t : Text). name (out-Right r).op ++ (m mark.OpenParen ++ t ++ m mark.CloseParen) ++ m mark.Colon ++ name (out-Right r).desc) inputs ∙ simp append_assoc in
    pieces_3 old t0 t1 t2 opening (rights_text rs) ending e0 e1 e2 ∙ ap (λ t. old ++ t) (sym text)

-- ---- declarations

pub block_pieces : (ss : List stmt.Stmt) (old t0 t1 t2 : Text) → t0 ≡ old ++ m mark.OpenBrace → t1 ≡ t0 ++ flat_map (λ s. stmt_tokens (seen_stmt s)) ss → t2 ≡ t1 ++ m mark.CloseBrace → t2 ≡ old ++ block (map seen_stmt ss)
block_pieces ss old t0 t1 t2 e0 e1 e2 =
    let inner : Text = flat_map (λ s. stmt_tokens (seen_stmt s)) ss in
    pieces_3 old t0 t1 t2 (m mark.OpenBrace) inner (m mark.CloseBrace) e0 e1 e2 ∙ ap (λ (t : Text). old ++ (m mark.OpenBrace ++ (t ++ m mark.CloseBrace))) (sym (flat_map-map stmt_tokens seen_stmt ss))

-- a section as it is seen
section_seen : {A B : Type 0} (f : B → Text) (g : A → B) (xs ys : List A) (t u : Text) → xs ≡ ys → u ≡ t ++ flat_map (λ x. f (g x)) xs → u ≡ t ++ flat_map f (map g ys)
section_seen {A} f g xs ys t u same e = e ∙ ap (λ (zs : List A). t ++ flat_map (λ x. f (g x)) zs) same ∙ ap (λ z. t ++ z) (sym (flat_map-map f g ys))

pub rules_pieces : (r : rules.Rules) (ps : List Property) (os : List operator.Operator) (algs : List Algorithm) (hs : List helper.Helper) (ts : List trule.TRule) (is : List irule.IRule) (old t1 t2 t3 t4 t5 t6 : Text) →
    ps ≡ r.properties → os ≡ r.operators → algs ≡ r.algorithms → hs ≡ r.helpers → ts ≡ r.trules → is ≡ r.irules →
    t1 ≡ old ++ flat_map property_tokens ps → t2 ≡ t1 ++ flat_map (λ o. operator_tokens (seen_operator o)) os → t3 ≡ t2 ++ flat_map algorithm_tokens algs →
    t4 ≡ t3 ++ flat_map (λ h. helper_tokens (seen_helper h)) hs → t5 ≡ t4 ++ flat_map (λ x. trule_tokens (seen_trule x)) ts → t6 ≡ t5 ++ flat_map (λ x. irule_tokens (seen_irule x)) is → t6 ≡ old ++ tokens_of (seen_rules r)
rules_pieces r ps os algs hs ts is old t1 t2 t3 t4 t5 t6 p o a h t i e1 e2 e3 e4 e5 e6 =
    let properties : Text = flat_map property_tokens r.properties in
    let operators : Text = flat_map operator_tokens (map seen_operator r.operators) in
    let algorithms : Text = flat_map algorithm_tokens r.algorithms in
    let helpers : Text = flat_map helper_tokens (map seen_helper r.helpers) in
    let trules : Text = flat_map trule_tokens (map seen_trule r.trules) in
    let irules : Text = flat_map irule_tokens (map seen_irule r.irules) in
    let p1 : t1 ≡ old ++ properties = e1 ∙ ap (λ (xs : List Property). old ++ flat_map property_tokens xs) p in
    let p2 : t2 ≡ old ++ (properties ++ operators) = push_piece old t1 t2 properties operators p1 (section_seen operator_tokens seen_operator os r.operators t1 t2 o e2) in
    let p3 : t3 ≡ old ++ (properties ++ operators ++ algorithms) = push_piece old t2 t3 (properties ++ operators) algorithms p2 (e3 ∙ ap (λ (xs : List Algorithm). t2 ++ flat_map algorithm_tokens xs) a) in
    let p4 : t4 ≡ old ++ (properties ++ operators ++ algorithms ++ helpers) = push_piece old t3 t4 (properties ++ operators ++ algorithms) helpers p3 (section_seen helper_tokens seen_helper hs r.helpers t3 t4 h e4) in
    let p5 : t5 ≡ old ++ (properties ++ operators ++ algorithms ++ helpers ++ trules) = push_piece old t4 t5 (properties ++ operators ++ algorithms ++ helpers) trules p4 (section_seen trule_tokens seen_trule ts r.trules t4 t5 t e5) in
    push_piece old t5 t6 (properties ++ operators ++ algorithms ++ helpers ++ trules) irules p5 (section_seen irule_tokens seen_irule is r.irules t5 t6 i e6)
