-- The tokens of what the grammar spells are tokens: names of at most 64 bytes, numbers up to the cap, symbols and marks.
use Rattle.std.proofs.Common.{◌≡◌, ℕ, Bool, true, false, ◌&&◌, List, [], ◌∷◌, ◌++◌, map, flat_map, refl, ◌∙◌}
use Rattle.std.specs.Prelude.{codes, nat_le, ⊤}
use Rattle.std.specs.List.{list_all}
use Rattle.std.proofs.lemmas.Bool.{and_parts, and_from}
use Rattle.std.proofs.lemmas.List.Folds.{list_all-append}
use Rattle.pr_value.specs.Capped.{cap}
use Rattle.pr_value.specs.Symbols.{Symbol, is_name, is_symbol}
use Rattle.pr_value.specs.TokenTexts.{is_token}
use Rattle.pr_value.specs.Trees.{Tree, node, Trees, nil, cons}
use Rattle.pr_value.specs.declared.kind.Kind.{Kind}
use Rattle.pr_value.specs.declared.kind.Kind.TheVariants as kind
use Rattle.pr_value.specs.declared.token.Mark.{Mark}
use Rattle.pr_value.specs.declared.token.Mark.TheVariants as mark
use Rattle.rule_ast.specs.declared.expr.FoldKind.{FoldKind}
use Rattle.rule_ast.specs.declared.expr.FoldKind.TheVariants as folding
use Rattle.rule_ast.specs.declared.parts.Algorithm.{Algorithm}
use Rattle.rule_ast.specs.declared.parts.Param.{Param}
use Rattle.pr_value.specs.declared.property.Property.{Property}
use Rattle.rule_ast.specs.declared.sides.AlgName.{AlgName}
use Rattle.rule_ast.specs.declared.sides.AlgName.TheVariants as alg
use Rattle.rule_ast.specs.declared.sides.ImplIn.{ImplIn}
use Rattle.rule_ast.specs.declared.sides.ImplSide.{ImplSide}
use Rattle.rule_ast.specs.Syntax as syntax
use Rattle.rule_ast.specs.Syntax.{Expr, number, truth, symbol, set_of, list_of, var, call, binary, fold, Exprs, Stmt, LeftLabel, RightLabel, Operator, Helper, Body, TRule, IRule, Rules}
use Rattle.rule_syntax.specs.Tokens.{Text, m, name, num, quoted, commas, parens, braces, brackets, kind_name, truth_name, binop_mark, fold_name, expr_tokens, exprs_tokens, stmt_tokens, block, body_tokens, left_tokens, lefts_tokens, right_tokens, rights_tokens, impl_in_tokens, alg_name, impl_tokens, property_tokens, operator_tokens, algorithm_tokens, param_tokens, helper_tokens, trule_tokens, irule_tokens}
use Rattle.rule_ast.specs.Spelled.{is_free, has_some, spells_expr, spells_exprs, spells_stmt, spells_body, has_inputs, spells_left_in, spells_left_ins, spells_left, spells_right_in, spells_right_ins, spells_right, spells_alg, spells_impl_in, spells_impl, spells_property, spells_operator, spells_algorithm, spells_param, spells_helper, spells_trule, spells_irule}
use Rattle.rule_syntax.specs.Printable.{HasTexts}

-- each token has a text
record Whole (ts : Text) : Type 0 where
  is : list_all is_token ts ≡ true

-- both parts of a truth
fst : (a b : Bool) → (a && b) ≡ true → a ≡ true
fst a b e = (and_parts a b e).0

snd : (a b : Bool) → (a && b) ≡ true → b ≡ true
snd a b e = (and_parts a b e).1

infixl 10 ◌&◌
◌&◌ : {ts us : Text} → Whole ts → Whole us → Whole (ts ++ us)
◌&◌ {ts} {us} h k = record { is = list_all-append is_token ts us ∙ and_from (list_all is_token ts) (list_all is_token us) h.is k.is }

mark-whole : (x : Mark) → Whole (m x)
mark-whole x = record { is = refl }

word : (s : Symbol) → is_name s ≡ true → Whole (name s)
word s e = record { is = and_from (is_name s) true e refl }

name-free : (s : Symbol) → is_free s ≡ true → Whole (name s)
unfolding is_free
name-free s e = word s (fst (is_name s) _ e)

num-capped : (n : ℕ) → nat_le n cap ≡ true → Whole (num n)
num-capped n e = record { is = and_from (nat_le n cap) true e refl }

quoted-symbol : (s : Symbol) → is_symbol s ≡ true → Whole (quoted s)
quoted-symbol s e = record { is = and_from (is_symbol s) true e refl }

kind-word : (k : Kind) → Whole (name (kind_name k))
kind-word kind.Num = record { is = refl }
kind-word k = record { is = refl }

truth-word : (b : Bool) → Whole (name (truth_name b))
truth-word true = record { is = refl }
truth-word false = record { is = refl }

fold-word : (k : FoldKind) → Whole (name (fold_name k))
fold-word folding.Sum = record { is = refl }
fold-word k = record { is = refl }

alg-word : (a : AlgName) → spells_alg a ≡ true → Whole (name (alg_name a))
alg-word (alg.Named a) e = name-free a e
alg-word alg.Null e = record { is = refl }

-- each part is whole
abbrev AllWhole : List Text → Type 0
AllWhole [] = ⊤
AllWhole (t ∷ ts) = Whole t × AllWhole ts

commas-whole : (ts : List Text) → AllWhole ts → Whole (commas ts)
commas-whole [] h = record { is = refl }
commas-whole (t ∷ []) h = h.0
commas-whole (t ∷ u ∷ more) h = h.0 & mark-whole mark.Comma & commas-whole (u ∷ more) h.1

map-whole : {A : Type 0} (tokens : A → Text) (test : A → Bool) → ((x : A) → test x ≡ true → Whole (tokens x)) → (xs : List A) → list_all test xs ≡ true → AllWhole (map tokens xs)
map-whole tokens test each [] e = tt
map-whole tokens test each (x ∷ xs) e = (each x (fst (test x) _ e), map-whole tokens test each xs (snd (test x) _ e))

flat-whole : {A : Type 0} (tokens : A → Text) (test : A → Bool) → ((x : A) → test x ≡ true → Whole (tokens x)) → (xs : List A) → list_all test xs ≡ true → Whole (flat_map tokens xs)
flat-whole tokens test each [] e = record { is = refl }
flat-whole tokens test each (x ∷ xs) e = each x (fst (test x) _ e) & flat-whole tokens test each xs (snd (test x) _ e)

parens-whole : (ts : Text) → Whole ts → Whole (parens ts)
parens-whole ts h = mark-whole mark.OpenParen & h & mark-whole mark.CloseParen

braces-whole : (ts : Text) → Whole ts → Whole (braces ts)
braces-whole ts h = mark-whole mark.OpenBrace & h & mark-whole mark.CloseBrace

brackets-whole : (ts : Text) → Whole ts → Whole (brackets ts)
brackets-whole ts h = mark-whole mark.OpenBracket & h & mark-whole mark.CloseBracket

-- ---- expressions and statements

mutual
  expr-whole : (e : Expr) → spells_expr e ≡ true → Whole (expr_tokens e)
  expr-whole (number n) h = num-capped n h
  expr-whole (truth b) h = truth-word b
  expr-whole (symbol s) h = quoted-symbol s h
  expr-whole (set_of es) h = braces-whole (commas (exprs_tokens es)) (commas-whole (exprs_tokens es) (exprs-whole es h))
  expr-whole (list_of es) h = brackets-whole (commas (exprs_tokens es)) (commas-whole (exprs_tokens es) (exprs-whole es h))
  expr-whole (var x) h = name-free x h
  expr-whole (syntax.read d p) h = name-free d (fst (is_free d) _ h) & mark-whole mark.Dot & name-free p (snd (is_free d) _ h)
  expr-whole (call f es) h =
      name-free f (fst (is_free f) _ h) & parens-whole (commas (exprs_tokens es)) (commas-whole (exprs_tokens es) (exprs-whole es (snd (is_free f) _ h)))
  expr-whole (binary a o b) h =
      parens-whole (expr_tokens a ++ m (binop_mark o) ++ expr_tokens b) (expr-whole a (fst (spells_expr a) _ h) & mark-whole (binop_mark o) & expr-whole b (snd (spells_expr a) _ h))
  expr-whole (fold k x over each) h =
      let first = fst (is_free x && spells_expr over) _ h in
      fold-word k & parens-whole (name x ++ name (codes "in") ++ expr_tokens over ++ m mark.Colon ++ expr_tokens each)
      (name-free x (fst (is_free x) _ first) & word (codes "in") refl & expr-whole over (snd (is_free x) _ first) & mark-whole mark.Colon & expr-whole each (snd (is_free x && spells_expr over) _ h))

  exprs-whole : (es : Exprs) → spells_exprs es ≡ true → AllWhole (exprs_tokens es)
  exprs-whole syntax.nil h = tt
  exprs-whole (syntax.cons e es) h = (expr-whole e (fst (spells_expr e) _ h), exprs-whole es (snd (spells_expr e) _ h))

stmt-whole : (s : Stmt) → spells_stmt s ≡ true → Whole (stmt_tokens s)
stmt-whole (syntax.set d p e) h =
    let names = fst (is_free d && is_free p) _ h in
    name-free d (fst (is_free d) _ names) & mark-whole mark.Dot & name-free p (snd (is_free d) _ names) & mark-whole mark.Assign & expr-whole e (snd (is_free d && is_free p) _ h) & mark-whole mark.Semicolon
stmt-whole (syntax.copy d e) h = name-free d (fst (is_free d) _ h) & mark-whole mark.Assign & name-free e (snd (is_free d) _ h) & mark-whole mark.Semicolon

block-whole : (ss : List Stmt) → list_all spells_stmt ss ≡ true → Whole (block ss)
block-whole ss h = braces-whole (flat_map stmt_tokens ss) (flat-whole stmt_tokens spells_stmt stmt-whole ss h)

body-whole : (b : Body) → spells_body b ≡ true → Whole (body_tokens b)
body-whole b h =
    let first = fst (list_all spells_stmt b.pre && spells_expr b.test) _ h in
    word (codes "pre") refl & block-whole b.pre (fst (list_all spells_stmt b.pre) _ first) & word (codes "test") refl & expr-whole b.test (snd (list_all spells_stmt b.pre) _ first) & word (codes "post") refl
    & block-whole b.post (snd (list_all spells_stmt b.pre && spells_expr b.test) _ h)

-- ---- sides

mutual
  left-whole : (l : Tree LeftLabel) → spells_left_in l ≡ true → Whole (left_tokens l)
  left-whole (node (LeftLabel.operator o d) ls) h =
      let some = fst (is_free o && is_free d && has_inputs ls) _ h in
      let names = fst (is_free o && is_free d) _ some in
      name-free o (fst (is_free o) _ names) & parens-whole (commas (lefts_tokens ls)) (commas-whole (lefts_tokens ls) (lefts-whole ls (snd (is_free o && is_free d && has_inputs ls) _ h)))
      & mark-whole mark.Colon & name-free d (snd (is_free o) _ names)
  left-whole (node (LeftLabel.stream n d) ls) h =
      let parts = fst (nat_le n cap && is_free d) _ h in
      mark-whole mark.Question & num-capped n (fst (nat_le n cap) _ parts) & mark-whole mark.Colon & name-free d (snd (nat_le n cap) _ parts)

  lefts-whole : (ls : Trees LeftLabel) → spells_left_ins ls ≡ true → AllWhole (lefts_tokens ls)
  lefts-whole nil h = tt
  lefts-whole (cons l ls) h = (left-whole l (fst (spells_left_in l) _ h), lefts-whole ls (snd (spells_left_in l) _ h))

mutual
  right-whole : (r : Tree RightLabel) → spells_right_in r ≡ true → Whole (right_tokens r)
  right-whole (node (RightLabel.operator o d) rs) h =
      let some = fst (is_free o && is_free d && has_inputs rs) _ h in
      let names = fst (is_free o && is_free d) _ some in
      name-free o (fst (is_free o) _ names) & parens-whole (commas (rights_tokens rs)) (commas-whole (rights_tokens rs) (rights-whole rs (snd (is_free o && is_free d && has_inputs rs) _ h)))
      & mark-whole mark.Colon & name-free d (snd (is_free o) _ names)
  right-whole (node (RightLabel.stream n) rs) h = mark-whole mark.Question & num-capped n (fst (nat_le n cap) _ h)

  rights-whole : (rs : Trees RightLabel) → spells_right_ins rs ≡ true → AllWhole (rights_tokens rs)
  rights-whole nil h = tt
  rights-whole (cons r rs) h = (right-whole r (fst (spells_right_in r) _ h), rights-whole rs (snd (spells_right_in r) _ h))

left-root : (l : Tree LeftLabel) → spells_left l ≡ true → Whole (left_tokens l)
left-root (node (LeftLabel.operator o d) ls) h = left-whole (node (LeftLabel.operator o d) ls) h
left-root (node (LeftLabel.stream n d) ls) h = cc

right-root : (r : Tree RightLabel) → spells_right r ≡ true → Whole (right_tokens r)
right-root (node (RightLabel.operator o d) rs) h = right-whole (node (RightLabel.operator o d) rs) h
right-root (node (RightLabel.stream n) rs) h = cc

impl_in-whole : (s : ImplIn) → spells_impl_in s ≡ true → Whole (impl_in_tokens s)
impl_in-whole s h = mark-whole mark.Question & num-capped s.number (fst (nat_le s.number cap) _ h) & mark-whole mark.Colon & name-free s.desc (snd (nat_le s.number cap) _ h)

impl-whole : (s : ImplSide) → spells_impl s ≡ true → Whole (impl_tokens s)
impl-whole s h =
    let parts = fst (spells_alg s.alg && has_some s.inputs && list_all spells_impl_in s.inputs) _ h in
    let first = fst (spells_alg s.alg && has_some s.inputs) _ parts in
    alg-word s.alg (fst (spells_alg s.alg) _ first)
    & parens-whole (commas (map impl_in_tokens s.inputs)) (commas-whole (map impl_in_tokens s.inputs) (map-whole impl_in_tokens spells_impl_in impl_in-whole s.inputs (snd (spells_alg s.alg && has_some s.inputs) _ parts)))
    & mark-whole mark.Colon & name-free s.desc (snd (spells_alg s.alg && has_some s.inputs && list_all spells_impl_in s.inputs) _ h)

-- ---- declarations

property-whole : (p : Property) → spells_property p ≡ true → Whole (property_tokens p)
property-whole p h = word (codes "property") refl & name-free p.name h & mark-whole mark.Colon & kind-word p.kind & mark-whole mark.Semicolon

operator-whole : (o : Operator) → spells_operator o ≡ true → Whole (operator_tokens o)
operator-whole o h =
    let to_own = fst (is_free o.name && has_some o.views && list_all is_free o.views && is_free o.own) _ h in
    let to_views = fst (is_free o.name && has_some o.views && list_all is_free o.views) _ to_own in
    let to_some = fst (is_free o.name && has_some o.views) _ to_views in
    word (codes "operator") refl & name-free o.name (fst (is_free o.name) _ to_some)
    & parens-whole (commas (map name o.views)) (commas-whole (map name o.views) (map-whole name is_free name-free o.views (snd (is_free o.name && has_some o.views) _ to_views)))
    & mark-whole mark.Colon & name-free o.own (snd (is_free o.name && has_some o.views && list_all is_free o.views) _ to_own)
    & block-whole o.init (snd (is_free o.name && has_some o.views && list_all is_free o.views && is_free o.own) _ h)

algorithm-whole : (a : Algorithm) → spells_algorithm a ≡ true → Whole (algorithm_tokens a)
algorithm-whole a h = word (codes "algorithm") refl & name-free a.name (fst (is_free a.name) _ h) & mark-whole mark.Slash & num-capped a.arity (snd (is_free a.name) _ h) & mark-whole mark.Semicolon

param-whole : (p : Param) → spells_param p ≡ true → Whole (param_tokens p)
param-whole p h = name-free p.name h & mark-whole mark.Colon & kind-word p.kind

helper-whole : (h : Helper) → spells_helper h ≡ true → Whole (helper_tokens h)
helper-whole h e =
    let first = fst (is_free h.name && list_all spells_param h.params) _ e in
    word (codes "helper") refl & name-free h.name (fst (is_free h.name) _ first)
    & parens-whole (commas (map param_tokens h.params)) (commas-whole (map param_tokens h.params) (map-whole param_tokens spells_param param-whole h.params (snd (is_free h.name) _ first)))
    & mark-whole mark.Colon & kind-word h.result & mark-whole mark.Assign & expr-whole h.body (snd (is_free h.name && list_all spells_param h.params) _ e) & mark-whole mark.Semicolon

trule-whole : (r : TRule) → spells_trule r ≡ true → Whole (trule_tokens r)
trule-whole r h =
    let sides = fst (is_free r.name && spells_left r.left && spells_right r.right) _ h in
    let left = fst (is_free r.name && spells_left r.left) _ sides in
    word (codes "trule") refl & name-free r.name (fst (is_free r.name) _ left) & mark-whole mark.Colon & left-root r.left (snd (is_free r.name) _ left) & mark-whole mark.Arrow
    & right-root r.right (snd (is_free r.name && spells_left r.left) _ sides) & body-whole r.body (snd (is_free r.name && spells_left r.left && spells_right r.right) _ h)

irule-whole : (r : IRule) → spells_irule r ≡ true → Whole (irule_tokens r)
irule-whole r h =
    let sides = fst (is_free r.name && spells_left r.left && spells_impl r.right) _ h in
    let left = fst (is_free r.name && spells_left r.left) _ sides in
    word (codes "irule") refl & name-free r.name (fst (is_free r.name) _ left) & mark-whole mark.Colon & left-root r.left (snd (is_free r.name) _ left) & mark-whole mark.Arrow
    & impl-whole r.right (snd (is_free r.name && spells_left r.left) _ sides) & body-whole r.body (snd (is_free r.name && spells_left r.left && spells_impl r.right) _ h)

pub has_texts : HasTexts
has_texts r h =
    let fifth = fst (list_all spells_property r.properties && list_all spells_operator r.operators && list_all spells_algorithm r.algorithms && list_all spells_helper r.helpers && list_all spells_trule r.trules) _ h in
    let fourth = fst (list_all spells_property r.properties && list_all spells_operator r.operators && list_all spells_algorithm r.algorithms && list_all spells_helper r.helpers) _ fifth in
    let third = fst (list_all spells_property r.properties && list_all spells_operator r.operators && list_all spells_algorithm r.algorithms) _ fourth in
    let second = fst (list_all spells_property r.properties && list_all spells_operator r.operators) _ third in
    (flat-whole property_tokens spells_property property-whole r.properties (fst (list_all spells_property r.properties) _ second)
    & flat-whole operator_tokens spells_operator operator-whole r.operators (snd (list_all spells_property r.properties) _ second)
    & flat-whole algorithm_tokens spells_algorithm algorithm-whole r.algorithms (snd (list_all spells_property r.properties && list_all spells_operator r.operators) _ third)
    & flat-whole helper_tokens spells_helper helper-whole r.helpers (snd (list_all spells_property r.properties && list_all spells_operator r.operators && list_all spells_algorithm r.algorithms) _ fourth)
    & flat-whole trule_tokens spells_trule trule-whole r.trules (snd (list_all spells_property r.properties && list_all spells_operator r.operators && list_all spells_algorithm r.algorithms && list_all spells_helper r.helpers) _ fifth)
    & flat-whole irule_tokens spells_irule irule-whole r.irules (snd (list_all spells_property r.properties && list_all spells_operator r.operators && list_all spells_algorithm r.algorithms && list_all spells_helper r.helpers && list_all spells_trule r.trules) _ h)).is
