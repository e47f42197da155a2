-- The reader of queries reads what is spelled, and nothing else.
use Rattle.std.proofs.Common.{map, ◌≡◌, ℕ, zero, suc, ◌-◌, ◌<◌, ◌≤◌, Bool, true, false, cond, List, [], ◌∷◌, ◌++◌, length, Option, Some, None, refl, sym, ap, ◌∙◌, subst, arith, append_assoc, append-nil}
use Rattle.std.specs.Prelude.{⊤, codes, ◌&&◌, nat_le, max, ◌==◌, if◌then◌else◌}
use Rattle.std.proofs.lemmas.Bool.{eqb-true}
use Rattle.std.specs.List.{list_all}
use Rattle.pr_value.specs.Capped.{cap}
use Rattle.pr_value.specs.Symbols.{Symbol, is_symbol}
use Rattle.pr_value.specs.Trees.{node, Trees, nil, cons, tree, trees_of, list_of}
use Rattle.pr_value.proofs.TreeLaws.{trees_of_list_of}
use Rattle.pr_value.specs.declared.token.Token.TheVariants as token
use Rattle.pr_value.specs.declared.token.Mark.{Mark}
use Rattle.pr_value.specs.declared.token.Mark.TheVariants as mark
use Rattle.rule_ast.specs.declared.query.Setting.{Setting}
use Rattle.rule_ast.specs.declared.query.Literal.{Literal}
use Rattle.rule_ast.specs.declared.query.Literal.TheVariants as literal
use Rattle.rule_syntax.specs.DistinctQueries.{DistinctQueries}
use Rattle.rule_ast.specs.Syntax.{QueryLabel, Query}
use Rattle.rule_syntax.specs.Tokens.{Text, m, name, quoted, commas, parens, braces, literal_tokens, setting_tokens, settings_tokens, query_tokens}
use Rattle.rule_ast.specs.Spelled.{is_free, has_some, has_inputs, spells_literal, spells_setting, spells_query, spells_queries}
use Rattle.rule_syntax.specs.Levels.{query_levels, queries_levels, IsQuery}
use Rattle.rule_syntax.specs.Reading.{◌>>=◌, Reader, mark_at, marked, word_at, begins, name_at, quoted_at, truth_of, filled_at, closed_at, alone}
use Rattle.rule_syntax.specs.ReadingQuery.{literal_at, setting_at, settings_at, file_at, operator_at, query_level_at, query_at, whole_query_at}
use Rattle.rule_syntax.proofs.TokenLaws.{on_some, some_same, guard_some, both_true, and_true, mark_sound, word_sound, name_sound, name_complete, quoted_sound, quoted_complete, truth_named, truth_complete, free_no_file}
use Rattle.rule_syntax.proofs.ListLaws.{Sound, Complete, Every, Closes, Good, closed_sound, closed_complete, filled_sound, filled_complete, good_every, every_spelled, every_shallow, all_every, every_all}
use Rattle.rule_syntax.proofs.PartLists.{has_inputs-list, queries_tokens-list, spells_queries-list, queries_levels-list}

-- a level of a query, where one is left
pub query_at-level : (n : ℕ) (ts : Text) → 0 < n → query_at n ts ≡ query_level_at (query_at (n - 1)) ts
unfolding query_at
query_at-level zero ts h = absurd (omega arith)
query_at-level (suc n) ts h = let e : n ≡ suc n - 1 = omega arith in ap (λ k. query_level_at (query_at k) ts) e

pub query_at-none : (ts : Text) → query_at 0 ts ≡ None
unfolding query_at
query_at-none ts = refl

pub ruleset query_levels_lemmas = (query_at-level, query_at-none)

-- anything may follow
abbrev Any : Text → Type 0
Any ts = ⊤

-- what stands between two marks, as the readers want it
between : (t : Text) (close : Mark) (rest : Text) → (t ++ m close) ++ rest ≡ t ++ (token.Mark close ∷ rest)
between t close rest = append_assoc t (m close) rest

-- symbols
abbrev GoodSymbol : Symbol → Type 0
GoodSymbol s = is_symbol s ≡ true

symbol_sound : Sound quoted GoodSymbol quoted_at
symbol_sound ts x e = quoted_sound ts x e

symbol_complete : Complete quoted GoodSymbol Any quoted_at
symbol_complete s good rest any = quoted_complete s rest good

symbol_some : (s : Symbol) → 1 ≤ length (quoted s)
symbol_some s = omega arith

symbols_in_braces : Closes quoted Any mark.CloseBrace
symbols_in_braces = record { itself = λ rest. refl; no_comma = λ rest. refl; no_part = λ x rest. refl; ends = λ rest. tt }

symbols_in_brackets : Closes quoted Any mark.CloseBracket
symbols_in_brackets = record { itself = λ rest. refl; no_comma = λ rest. refl; no_part = λ x rest. refl; ends = λ rest. tt }

symbols_sound : (open_mark close : Mark) (ts : Text) (x : List Symbol × Text) → closed_at quoted_at close ts ≡ Some x
    → (list_all is_symbol x.0 ≡ true) × (token.Mark open_mark ∷ ts ≡ (m open_mark ++ commas (map quoted x.0) ++ m close) ++ x.1)
symbols_sound open_mark close ts x e =
    let c = closed_sound quoted GoodSymbol quoted_at symbol_sound close ts x e in
    (every_all is_symbol x.0 (c.0), ap (λ us. token.Mark open_mark ∷ us) (c.1 ∙ sym (between (commas (map quoted x.0)) close x.1)))

symbols_complete : (close : Mark) → Closes quoted Any close → (ss : List Symbol) → list_all is_symbol ss ≡ true → (rest : Text) → closed_at quoted_at close ((commas (map quoted ss) ++ m close) ++ rest) ≡ Some (ss, rest)
symbols_complete close closes ss h rest =
    ap (closed_at quoted_at close) (between (commas (map quoted ss)) close rest) ∙ closed_complete quoted GoodSymbol Any quoted_at symbol_complete (λ ts. tt) symbol_some close closes ss (all_every is_symbol ss h) rest

-- literals
abbrev GoodLiteral : Literal → Type 0
GoodLiteral l = spells_literal l ≡ true

literal_sound : Sound literal_tokens GoodLiteral literal_at
literal_sound (token.Number n ∷ ts) x e =
    let g = guard_some (nat_le n cap) (Some (literal.Number n, ts)) x e in
    subst (λ (y : Literal × Text). GoodLiteral y.0 × (token.Number n ∷ ts ≡ literal_tokens y.0 ++ y.1)) (some_same (literal.Number n, ts) x (g.1)) (g.0, refl)
literal_sound (token.Name s ∷ ts) x e =
    on_some (truth_of s) (λ (b : Bool). Some (literal.Truth b, ts)) x e (λ b h e.
    subst (λ (y : Literal × Text). GoodLiteral y.0 × (token.Name s ∷ ts ≡ literal_tokens y.0 ++ y.1)) (some_same (literal.Truth b, ts) x e) (refl, ap (λ w. token.Name w ∷ ts) (truth_named s b h)))
literal_sound (token.Quoted s ∷ ts) x e =
    let g = guard_some (is_symbol s) (Some (literal.Sym s, ts)) x e in
    subst (λ (y : Literal × Text). GoodLiteral y.0 × (token.Quoted s ∷ ts ≡ literal_tokens y.0 ++ y.1)) (some_same (literal.Sym s, ts) x (g.1)) (g.0, refl)
literal_sound (token.Mark mark.OpenBrace ∷ ts) x e =
    on_some (closed_at quoted_at mark.CloseBrace ts) (λ (y : List Symbol × Text). Some (literal.SetOf y.0, y.1)) x e (λ y h e.
    subst (λ (y : Literal × Text). GoodLiteral y.0 × (token.Mark mark.OpenBrace ∷ ts ≡ literal_tokens y.0 ++ y.1)) (some_same (literal.SetOf y.0, y.1) x e) (symbols_sound mark.OpenBrace mark.CloseBrace ts y h))
literal_sound (token.Mark mark.OpenBracket ∷ ts) x e =
    on_some (closed_at quoted_at mark.CloseBracket ts) (λ (y : List Symbol × Text). Some (literal.ListOf y.0, y.1)) x e (λ y h e.
    subst (λ (y : Literal × Text). GoodLiteral y.0 × (token.Mark mark.OpenBracket ∷ ts ≡ literal_tokens y.0 ++ y.1)) (some_same (literal.ListOf y.0, y.1) x e) (symbols_sound mark.OpenBracket mark.CloseBracket ts y h))
literal_sound ts x e = cc

literal_complete : Complete literal_tokens GoodLiteral Any literal_at
literal_complete (literal.Number n) good rest any = ap (λ b. cond b (Some (literal.Number n, rest)) None) good
literal_complete (literal.Truth b) good rest any = ap (λ (o : Option Bool). o >>= (λ (b : Bool). Some (literal.Truth b, rest))) (truth_complete b)
literal_complete (literal.Sym s) good rest any = ap (λ b. cond b (Some (literal.Sym s, rest)) None) good
literal_complete (literal.SetOf ss) good rest any = ap (λ (o : Option (List Symbol × Text)). o >>= (λ (y : List Symbol × Text). Some (literal.SetOf y.0, y.1))) (symbols_complete mark.CloseBrace symbols_in_braces ss good rest)
literal_complete (literal.ListOf ss) good rest any = ap (λ (o : Option (List Symbol × Text)). o >>= (λ (y : List Symbol × Text). Some (literal.ListOf y.0, y.1))) (symbols_complete mark.CloseBracket symbols_in_brackets ss good rest)

-- settings
abbrev GoodSetting : Setting → Type 0
GoodSetting s = spells_setting s ≡ true

setting_pieces : (ts a b rest : Text) (p : Symbol) (l : Literal) → ts ≡ token.Name p ∷ a → a ≡ token.Mark mark.Assign ∷ b → b ≡ literal_tokens l ++ rest → ts ≡ setting_tokens (record { property = p; value = l }) ++ rest
setting_pieces ts a b rest p l h1 h2 h3 = h1 ∙ ap (λ us. token.Name p ∷ us) (h2 ∙ ap (λ us. token.Mark mark.Assign ∷ us) h3)

setting_sound : Sound setting_tokens GoodSetting setting_at
setting_sound ts x e =
    on_some (name_at ts) (λ (p : Symbol × Text). mark_at mark.Assign p.1 >>= (λ r. literal_at r >>= (λ v. Some (record { property = p.0; value = v.0 }, v.1)))) x e (λ p h1 e.
    on_some (mark_at mark.Assign p.1) (λ (r : Text). literal_at r >>= (λ v. Some (record { property = p.0; value = v.0 }, v.1))) x e (λ r h2 e.
    on_some (literal_at r) (λ (v : Literal × Text). Some (record { property = p.0; value = v.0 }, v.1)) x e (λ v h3 e.
    let n = name_sound ts p h1 in
    let l = literal_sound r v h3 in
    subst (λ (y : Setting × Text). GoodSetting y.0 × (ts ≡ setting_tokens y.0 ++ y.1)) (some_same (record { property = p.0; value = v.0 }, v.1) x e)
    (and_true (is_free p.0) (spells_literal v.0) (n.0) (l.0), setting_pieces ts p.1 r v.1 p.0 v.0 (n.1) (mark_sound mark.Assign p.1 r h2) (l.1)))))

setting_complete : Complete setting_tokens GoodSetting Any setting_at
setting_complete s good rest any =
    let g = both_true (is_free s.property) (spells_literal s.value) good in
    ap (λ (o : Option (Symbol × Text)). o >>= (λ (p : Symbol × Text). mark_at mark.Assign p.1 >>= (λ r. literal_at r >>= (λ v. Some (record { property = p.0; value = v.0 }, v.1)))))
    (name_complete s.property (token.Mark mark.Assign ∷ (literal_tokens s.value ++ rest)) (g.0)) ∙
    ap (λ (o : Option (Literal × Text)). o >>= (λ (v : Literal × Text). Some (record { property = s.property; value = v.0 }, v.1))) (literal_complete s.value (g.1) rest tt)

setting_some : (s : Setting) → 1 ≤ length (setting_tokens s)
setting_some s = omega arith

settings_in_braces : Closes setting_tokens Any mark.CloseBrace
settings_in_braces = record { itself = λ rest. refl; no_comma = λ rest. refl; no_part = λ x rest. refl; ends = λ rest. tt }

some_settings : (ss : List Setting) → has_some ss ≡ true → settings_tokens ss ≡ braces (commas (map setting_tokens ss))
some_settings [] h = cc
some_settings (s ∷ ss) h = refl

settings_sound : (ts : Text) (x : List Setting × Text) → settings_at ts ≡ Some x → (list_all spells_setting x.0 ≡ true) × (ts ≡ settings_tokens x.0 ++ x.1)
settings_sound ts x e = next (marked mark.OpenBrace ts) e where
  next : (b : Bool) → (if b then (mark_at mark.OpenBrace ts >>= filled_at setting_at mark.CloseBrace) else Some ([], ts)) ≡ Some x → (list_all spells_setting x.0 ≡ true) × (ts ≡ settings_tokens x.0 ++ x.1)
  next false e = subst (λ (y : List Setting × Text). (list_all spells_setting y.0 ≡ true) × (ts ≡ settings_tokens y.0 ++ y.1)) (some_same ([], ts) x e) (refl, refl)
  next true e =
      on_some (mark_at mark.OpenBrace ts) (filled_at setting_at mark.CloseBrace) x e (λ r h e.
      let f = filled_sound setting_tokens GoodSetting setting_at setting_sound mark.CloseBrace r x e in (
        every_all spells_setting x.0 f.every,
        mark_sound mark.OpenBrace ts r h ∙ ap (λ us. token.Mark mark.OpenBrace ∷ us) (f.text ∙ sym (between (commas (map setting_tokens x.0)) mark.CloseBrace x.1)) ∙
            ap (λ us. us ++ x.1) (sym (some_settings x.0 f.some)),
      ))

settings_complete : (ss : List Setting) → list_all spells_setting ss ≡ true → (rest : Text) → marked mark.OpenBrace rest ≡ false → settings_at (settings_tokens ss ++ rest) ≡ Some (ss, rest)
settings_complete [] h rest none = ap (λ b. if b then (mark_at mark.OpenBrace rest >>= filled_at setting_at mark.CloseBrace) else Some ([], rest)) none
settings_complete (s ∷ ss) h rest none =
    ap (filled_at setting_at mark.CloseBrace) (between (commas (map setting_tokens (s ∷ ss))) mark.CloseBrace rest) ∙
    filled_complete setting_tokens GoodSetting Any setting_at setting_complete (λ ts. tt) setting_some mark.CloseBrace settings_in_braces (s ∷ ss) refl (all_every spells_setting (s ∷ ss) h) rest

-- queries
abbrev GoodQuery : ℕ → Query → Type 0
GoodQuery n = Good spells_query query_levels n

four_true : (a b c d : Bool) → (a && b && c && d) ≡ true → (a ≡ true) × (b ≡ true) × (c ≡ true) × (d ≡ true)
four_true a b c d e = let p = both_true (a && b && c) d e in let q = both_true (a && b) c (p.0) in let r = both_true a b (q.0) in (r.0, r.1, q.1, p.1)

operator_text : (o : Symbol) (st t rest : Text) → (name o ++ st ++ parens t) ++ rest ≡ token.Name o ∷ (st ++ (token.Mark mark.OpenParen ∷ (t ++ (token.Mark mark.CloseParen ∷ rest))))
operator_text o st t rest = ap (λ us. token.Name o ∷ us) (append_assoc st (parens t) rest ∙ ap (λ us. st ++ (token.Mark mark.OpenParen ∷ us)) (between t mark.CloseParen rest))

operator_pieces : (ts a b c rest : Text) (o : Symbol) (st t : Text) → ts ≡ token.Name o ∷ a → a ≡ st ++ b → b ≡ token.Mark mark.OpenParen ∷ c → c ≡ t ++ (token.Mark mark.CloseParen ∷ rest) → ts ≡ (name o ++ st ++ parens t) ++ rest
operator_pieces ts a b c rest o st t h1 h2 h3 h4 = h1 ∙ ap (λ us. token.Name o ∷ us) (h2 ∙ ap (λ us. st ++ us) (h3 ∙ ap (λ us. token.Mark mark.OpenParen ∷ us) h4)) ∙ sym (operator_text o st t rest)

operator_good : (n : ℕ) (o : Symbol) (ss : List Setting) (qs : List Query) → is_free o ≡ true → list_all spells_setting ss ≡ true → has_some qs ≡ true → Every (GoodQuery n) qs → GoodQuery (suc n) (tree (QueryLabel.operator o ss) qs)
operator_good n o ss qs free set some every =
    let few : queries_levels (trees_of qs) ≤ n = subst (λ (k : ℕ). k ≤ n) (sym (queries_levels-list qs)) (every_shallow spells_query query_levels n qs every) in
    record {
      spelled = and_true (is_free o && list_all spells_setting ss && has_inputs (trees_of qs)) (spells_queries (trees_of qs))
          (and_true (is_free o && list_all spells_setting ss) (has_inputs (trees_of qs)) (and_true (is_free o) (list_all spells_setting ss) free set) (has_inputs-list qs ∙ some))
          (spells_queries-list qs ∙ every_spelled spells_query query_levels n qs every);
      shallow = omega (arith, few);
    }

file_sound : (n : ℕ) (ts : Text) (x : Query × Text) → file_at ts ≡ Some x → GoodQuery (suc n) x.0 × (ts ≡ query_tokens x.0 ++ x.1)
unfolding file_at
file_sound n ts x e =
    on_some (word_at (codes "file") ts) (λ (r : Text). name_at r >>= (λ f. Some (tree (QueryLabel.file f.0) [], f.1))) x e (λ r h1 e.
    on_some (name_at r) (λ (f : Symbol × Text). Some (tree (QueryLabel.file f.0) [], f.1)) x e (λ f h2 e.
    let s = name_sound r f h2 in
    subst (λ (y : Query × Text). GoodQuery (suc n) y.0 × (ts ≡ query_tokens y.0 ++ y.1)) (some_same (tree (QueryLabel.file f.0) [], f.1) x e)
    (record { spelled = and_true (is_free f.0) true (s.0) refl; shallow = omega arith }, word_sound (codes "file") ts r h1 ∙ ap (λ us. token.Name (codes "file") ∷ us) (s.1))))

operator_sound : (n : ℕ) (query : Reader Query) → Sound query_tokens (GoodQuery n) query → (ts : Text) (x : Query × Text) → operator_at query ts ≡ Some x → GoodQuery (suc n) x.0 × (ts ≡ query_tokens x.0 ++ x.1)
unfolding operator_at
operator_sound n query sound ts x e =
    on_some (name_at ts) (λ (o : Symbol × Text). settings_at o.1 >>= (λ ss. mark_at mark.OpenParen ss.1 >>= (λ r. filled_at query mark.CloseParen r >>= (λ qs. Some (tree (QueryLabel.operator o.0 ss.0) qs.0, qs.1))))) x e (λ o h1 e.
    on_some (settings_at o.1) (λ (ss : List Setting × Text). mark_at mark.OpenParen ss.1 >>= (λ r. filled_at query mark.CloseParen r >>= (λ qs. Some (tree (QueryLabel.operator o.0 ss.0) qs.0, qs.1)))) x e (λ ss h2 e.
    on_some (mark_at mark.OpenParen ss.1) (λ (r : Text). filled_at query mark.CloseParen r >>= (λ qs. Some (tree (QueryLabel.operator o.0 ss.0) qs.0, qs.1))) x e (λ r h3 e.
    on_some (filled_at query mark.CloseParen r) (λ (qs : List Query × Text). Some (tree (QueryLabel.operator o.0 ss.0) qs.0, qs.1)) x e (λ qs h4 e.
    let n1 = name_sound ts o h1 in
    let s = settings_sound o.1 ss h2 in
    let f = filled_sound query_tokens (GoodQuery n) query sound mark.CloseParen r qs h4 in
    subst (λ (y : Query × Text). GoodQuery (suc n) y.0 × (ts ≡ query_tokens y.0 ++ y.1)) (some_same (tree (QueryLabel.operator o.0 ss.0) qs.0, qs.1) x e) (
      operator_good n o.0 ss.0 qs.0 (n1.0) (s.0) f.some f.every,
      operator_pieces ts o.1 ss.1 r qs.1 o.0 (settings_tokens ss.0) (commas (map query_tokens qs.0)) (n1.1) (s.1) (mark_sound mark.OpenParen ss.1 r h3) f.text ∙
          ap (λ us. (name o.0 ++ settings_tokens ss.0 ++ parens (commas us)) ++ qs.1) (sym (queries_tokens-list qs.0)),
    )))))

query_level_sound : (n : ℕ) (query : Reader Query) → Sound query_tokens (GoodQuery n) query → Sound query_tokens (GoodQuery (suc n)) (query_level_at query)
unfolding query_level_at
query_level_sound n query sound ts x e = next (begins (codes "file") ts) e where
  next : (b : Bool) → (if b then file_at ts else operator_at query ts) ≡ Some x → GoodQuery (suc n) x.0 × (ts ≡ query_tokens x.0 ++ x.1)
  next true e = file_sound n ts x e
  next false e = operator_sound n query sound ts x e

pub query_sound : (n : ℕ) → Sound query_tokens (GoodQuery n) (query_at n)
unfolding query_at
query_sound zero ts x e = cc
query_sound (suc n) ts x e = query_level_sound n (query_at n) (query_sound n) ts x e

query_some : (q : Query) → 1 ≤ length (query_tokens q)
query_some (node (QueryLabel.file f) qs) = omega arith
query_some (node (QueryLabel.operator o ss) qs) = omega arith

query_no_paren : (q : Query) (rest : Text) → mark_at mark.CloseParen (query_tokens q ++ rest) ≡ None
query_no_paren (node (QueryLabel.file f) qs) rest = refl
query_no_paren (node (QueryLabel.operator o ss) qs) rest = refl

queries_in_parens : Closes query_tokens Any mark.CloseParen
queries_in_parens = record { itself = λ rest. refl; no_comma = λ rest. refl; no_part = query_no_paren; ends = λ rest. tt }

file_complete : (f : Symbol) → is_free f ≡ true → (rest : Text) → file_at (token.Name (codes "file") ∷ token.Name f ∷ rest) ≡ Some (tree (QueryLabel.file f) [], rest)
unfolding file_at
file_complete f free rest = ap (λ (o : Option (Symbol × Text)). o >>= (λ (f : Symbol × Text). Some (tree (QueryLabel.file f.0) [], f.1))) (name_complete f rest free)

operator_complete : (n : ℕ) (query : Reader Query) → Complete query_tokens (GoodQuery n) Any query → (o : Symbol) (ss : List Setting) (qs : List Query) → is_free o ≡ true → list_all spells_setting ss ≡ true → has_some qs ≡ true →
    Every (GoodQuery n) qs → (rest : Text) →
    operator_at query (token.Name o ∷ (settings_tokens ss ++ (token.Mark mark.OpenParen ∷ (commas (map query_tokens qs) ++ (token.Mark mark.CloseParen ∷ rest))))) ≡ Some (tree (QueryLabel.operator o ss) qs, rest)
unfolding operator_at
operator_complete n query complete o ss qs free set some every rest =
    let inputs = commas (map query_tokens qs) ++ (token.Mark mark.CloseParen ∷ rest) in
    ap (λ (p : Option (Symbol × Text)). p >>= (λ (o : Symbol × Text). settings_at o.1 >>= (λ ss. mark_at mark.OpenParen ss.1 >>= (λ r. filled_at query mark.CloseParen r >>= (λ qs. Some (tree (QueryLabel.operator o.0 ss.0) qs.0, qs.1))))))
    (name_complete o (settings_tokens ss ++ (token.Mark mark.OpenParen ∷ inputs)) free) ∙
    ap (λ (p : Option (List Setting × Text)). p >>= (λ (ss : List Setting × Text). mark_at mark.OpenParen ss.1 >>= (λ r. filled_at query mark.CloseParen r >>= (λ qs. Some (tree (QueryLabel.operator o ss.0) qs.0, qs.1)))))
    (settings_complete ss set (token.Mark mark.OpenParen ∷ inputs) refl) ∙
    ap (λ (p : Option (List Query × Text)). p >>= (λ (qs : List Query × Text). Some (tree (QueryLabel.operator o ss) qs.0, qs.1)))
    (filled_complete query_tokens (GoodQuery n) Any query complete (λ ts. tt) query_some mark.CloseParen queries_in_parens qs some every rest)

-- an operator is read as one
operator_level : (query : Reader Query) (o : Symbol) (us : Text) → is_free o ≡ true → query_level_at query (token.Name o ∷ us) ≡ operator_at query (token.Name o ∷ us)
unfolding query_level_at
operator_level query o us free = ap (λ b. if b then file_at (token.Name o ∷ us) else operator_at query (token.Name o ∷ us)) (free_no_file o free)

operator_level_complete : (n : ℕ) (query : Reader Query) → Complete query_tokens (GoodQuery n) Any query → (o : Symbol) (ss : List Setting) (qs : List Query) → spells_query (tree (QueryLabel.operator o ss) qs) ≡ true →
    queries_levels (trees_of qs) ≤ n → (rest : Text) → query_level_at query (query_tokens (tree (QueryLabel.operator o ss) qs) ++ rest) ≡ Some (tree (QueryLabel.operator o ss) qs, rest)
operator_level_complete n query complete o ss qs spelled shallow rest =
    let g = four_true (is_free o) (list_all spells_setting ss) (has_inputs (trees_of qs)) (spells_queries (trees_of qs)) spelled in
    let every = good_every spells_query query_levels n qs (sym (spells_queries-list qs) ∙ g.3) (subst (λ (k : ℕ). k ≤ n) (queries_levels-list qs) shallow) in
    let behind = settings_tokens ss ++ (token.Mark mark.OpenParen ∷ (commas (map query_tokens qs) ++ (token.Mark mark.CloseParen ∷ rest))) in
    ap (λ us. query_level_at query ((name o ++ settings_tokens ss ++ parens (commas us)) ++ rest)) (queries_tokens-list qs) ∙
    ap (query_level_at query) (operator_text o (settings_tokens ss) (commas (map query_tokens qs)) rest) ∙ operator_level query o behind (g.0) ∙
    operator_complete n query complete o ss qs (g.0) (g.1) (sym (has_inputs-list qs) ∙ g.2) every rest

query_level_complete : (n : ℕ) (query : Reader Query) → Complete query_tokens (GoodQuery n) Any query → Complete query_tokens (GoodQuery (suc n)) Any (query_level_at query)
unfolding query_level_at
query_level_complete n query complete (node (QueryLabel.file f) (cons q qs)) good rest any = let b = both_true (is_free f) false good.spelled in absurd (cc (b.1))
query_level_complete n query complete (node (QueryLabel.file f) nil) good rest any = let b = both_true (is_free f) true good.spelled in file_complete f (b.0) rest
query_level_complete n query complete (node (QueryLabel.operator o ss) qs) good rest any =
    let P : Trees QueryLabel → Type 0 = λ us. query_level_at query (query_tokens (node (QueryLabel.operator o ss) us) ++ rest) ≡ Some (node (QueryLabel.operator o ss) us, rest) in
    let S : Trees QueryLabel → Type 0 = λ us. spells_query (node (QueryLabel.operator o ss) us) ≡ true in
    let F : Trees QueryLabel → Type 0 = λ us. queries_levels us ≤ n in
    let few : queries_levels qs ≤ n = let s = good.shallow in omega (arith, s) in
    let same = trees_of_list_of qs in
    subst P same (operator_level_complete n query complete o ss (list_of qs) (subst S (sym same) good.spelled) (subst F (sym same) few) rest)

query_some_level : (q : Query) → 1 ≤ query_levels q
query_some_level (node (QueryLabel.file f) qs) = omega arith
query_some_level (node (QueryLabel.operator o ss) qs) = omega arith

pub query_complete : (n : ℕ) → Complete query_tokens (GoodQuery n) Any (query_at n)
unfolding query_at
query_complete zero q good rest any = let s = good.shallow in let l = query_some_level q in absurd (omega (arith, s, l))
query_complete (suc n) q good rest any = query_level_complete n (query_at n) (query_complete n) q good rest any

length_none : (ts : Text) → length ts ≡ 0 → ts ≡ []
length_none [] e = refl
length_none (t ∷ ts) e = absurd (omega (arith, e))

pub query_found : (ts : Text) (q : Query) → whole_query_at ts ≡ Some q → IsQuery q ts
query_found ts q e =
    on_some (query_at 256 ts) alone q e (λ p h e.
    let g = guard_some (length p.1 == 0) (Some p.0) q e in
    let s = query_sound 256 ts p h in
    let none : p.1 ≡ [] = length_none p.1 (eqb-true (length p.1) 0 (g.0)) in
    subst (λ (x : Query). IsQuery x ts) (some_same p.0 q (g.1))
    (record { spelled = s.0.spelled; shallow = s.0.shallow; tokens = s.1 ∙ ap (λ us. query_tokens p.0 ++ us) none ∙ append-nil (query_tokens p.0) }))

pub query_again : (ts : Text) (q : Query) → IsQuery q ts → whole_query_at ts ≡ Some q
query_again ts q is =
    ap whole_query_at (is.tokens ∙ sym (append-nil (query_tokens q))) ∙
    ap (λ (o : Option (Query × Text)). o >>= alone) (query_complete 256 q (record { spelled = is.spelled; shallow = is.shallow }) [] tt)

pub distinct_queries : DistinctQueries
distinct_queries q r a b e =
    let n = max (query_levels q) (query_levels r) in
    let one = query_complete n q (record { spelled = a; shallow = omega arith }) [] tt in
    let two = query_complete n r (record { spelled = b; shallow = omega arith }) [] tt in
    let same : Some (q, []) ≡ Some (r, []) = sym one ∙ ap (λ us. query_at n (us ++ [])) e ∙ two in
    ap (λ (p : Query × Text). p.0) (some_same (q, []) (r, []) same)
