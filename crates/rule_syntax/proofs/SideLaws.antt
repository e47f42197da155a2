-- The readers of the sides of rules read what is spelled, and nothing else.
use Rattle.std.proofs.Common.{map, ◌≡◌, ℕ, zero, suc, ◌-◌, ◌<◌, ◌≤◌, Bool, true, false, List, [], ◌∷◌, ◌++◌, length, Option, Some, None, refl, sym, ap, ◌∙◌, subst, arith, append_assoc}
use Rattle.std.specs.Prelude.{⊤, codes, ◌&&◌, nat_le, if◌then◌else◌}
use Rattle.std.specs.List.{list_all}
use Rattle.pr_value.specs.Capped.{cap}
use Rattle.pr_value.specs.Symbols.{Symbol}
use Rattle.pr_value.specs.Trees.{Tree, node, Trees, nil, cons, tree, trees_of, list_of}
use Rattle.pr_value.proofs.TreeLaws.{trees_of_list_of}
use Rattle.pr_value.specs.declared.token.Token.TheVariants as token
use Rattle.pr_value.specs.declared.token.Mark.TheVariants as mark
use Rattle.rule_ast.specs.declared.sides.AlgName.{AlgName}
use Rattle.rule_ast.specs.declared.sides.AlgName.TheVariants as alg
use Rattle.rule_ast.specs.declared.sides.ImplIn.{ImplIn}
use Rattle.rule_ast.specs.declared.sides.ImplSide.{ImplSide}
use Rattle.rule_ast.specs.Syntax.{LeftLabel, RightLabel}
use Rattle.rule_syntax.specs.Tokens.{Text, m, name, parens, commas, left_tokens, right_tokens, impl_in_tokens, alg_name, impl_tokens}
use Rattle.rule_ast.specs.Spelled.{is_free, has_some, has_inputs, spells_left_in, spells_left_ins, spells_left, spells_right_in, spells_right_ins, spells_right, spells_alg, spells_impl_in, spells_impl}
use Rattle.rule_syntax.specs.Levels.{left_levels, lefts_levels, right_levels, rights_levels}
use Rattle.rule_syntax.specs.Reading.{◌>>=◌, Reader, mark_at, marked, word_at, begins, name_at, number_at, filled_at}
use Rattle.rule_syntax.specs.ReadingSides.{stream_at, impl_in_at, inputs_at, node_at, left_in_at, left_at, right_in_at, right_at, alg_at, impl_at}
use Rattle.rule_syntax.proofs.TokenLaws.{on_some, some_same, both_true, and_true, mark_sound, word_sound, name_sound, name_complete, number_sound, number_complete, free_no_null}
use Rattle.rule_syntax.proofs.ListLaws.{Sound, Complete, Every, Closes, Good, filled_sound, filled_complete, good_every, every_spelled, every_shallow, all_every, every_all}
use Rattle.rule_syntax.proofs.PartLists.{has_inputs-list, lefts_tokens-list, spells_left_ins-list, lefts_levels-list, rights_tokens-list, spells_right_ins-list, rights_levels-list}

-- a level of a side, where one is left
pub left_at-level : (n : ℕ) (ts : Text) → 0 < n → left_at n ts ≡ node_at LeftLabel.operator (left_in_at (left_at (n - 1))) ts
unfolding left_at
left_at-level zero ts h = absurd (omega arith)
left_at-level (suc n) ts h = let e : n ≡ suc n - 1 = omega arith in ap (λ k. node_at LeftLabel.operator (left_in_at (left_at k)) ts) e

pub left_at-none : (ts : Text) → left_at 0 ts ≡ None
unfolding left_at
left_at-none ts = refl

pub right_at-level : (n : ℕ) (ts : Text) → 0 < n → right_at n ts ≡ node_at RightLabel.operator (right_in_at (right_at (n - 1))) ts
unfolding right_at
right_at-level zero ts h = absurd (omega arith)
right_at-level (suc n) ts h = let e : n ≡ suc n - 1 = omega arith in ap (λ k. node_at RightLabel.operator (right_in_at (right_at k)) ts) e

pub right_at-none : (ts : Text) → right_at 0 ts ≡ None
unfolding right_at
right_at-none ts = refl

pub ruleset levels_lemmas = (left_at-level, left_at-none, right_at-level, right_at-none)

-- anything may follow
abbrev pub Any : Text → Type 0
Any ts = ⊤

-- "?" NUMBER
stream_sound : (ts : Text) (x : ℕ × Text) → stream_at ts ≡ Some x → (nat_le x.0 cap ≡ true) × (ts ≡ token.Mark mark.Question ∷ token.Number x.0 ∷ x.1)
stream_sound ts x e =
    on_some (mark_at mark.Question ts) number_at x e (λ r h1 e.
    let s = number_sound r x e in
    (s.0, mark_sound mark.Question ts r h1 ∙ ap (λ us. token.Mark mark.Question ∷ us) (s.1)))

stream_complete : (n : ℕ) (rest : Text) → nat_le n cap ≡ true → stream_at (token.Mark mark.Question ∷ token.Number n ∷ rest) ≡ Some (n, rest)
stream_complete n rest h = number_complete n rest h

-- iin
abbrev pub GoodIn : ImplIn → Type 0
GoodIn s = spells_impl_in s ≡ true

impl_in_pieces : (ts a b rest : Text) (n : ℕ) (d : Symbol) → ts ≡ token.Mark mark.Question ∷ token.Number n ∷ a → a ≡ token.Mark mark.Colon ∷ b → b ≡ token.Name d ∷ rest → ts ≡ impl_in_tokens (record { number = n; desc = d }) ++ rest
impl_in_pieces ts a b rest n d h1 h2 h3 = h1 ∙ ap (λ us. token.Mark mark.Question ∷ token.Number n ∷ us) (h2 ∙ ap (λ us. token.Mark mark.Colon ∷ us) h3)

impl_in_sound : Sound impl_in_tokens GoodIn impl_in_at
impl_in_sound ts x e =
    on_some (stream_at ts) (λ (n : ℕ × Text). mark_at mark.Colon n.1 >>= (λ r. name_at r >>= (λ d. Some (record { number = n.0; desc = d.0 }, d.1)))) x e (λ n h1 e.
    on_some (mark_at mark.Colon n.1) (λ (r : Text). name_at r >>= (λ d. Some (record { number = n.0; desc = d.0 }, d.1))) x e (λ r h2 e.
    on_some (name_at r) (λ (d : Symbol × Text). Some (record { number = n.0; desc = d.0 }, d.1)) x e (λ d h3 e.
    let sn = stream_sound ts n h1 in
    let sd = name_sound r d h3 in
    subst (λ (y : ImplIn × Text). GoodIn y.0 × (ts ≡ impl_in_tokens y.0 ++ y.1)) (some_same (record { number = n.0; desc = d.0 }, d.1) x e)
    (and_true (nat_le n.0 cap) (is_free d.0) (sn.0) (sd.0), impl_in_pieces ts n.1 r d.1 n.0 d.0 (sn.1) (mark_sound mark.Colon n.1 r h2) (sd.1)))))

impl_in_complete : Complete impl_in_tokens GoodIn Any impl_in_at
impl_in_complete s good rest any =
    let g = both_true (nat_le s.number cap) (is_free s.desc) good in
    ap (λ (o : Option (ℕ × Text)). o >>= (λ (n : ℕ × Text). mark_at mark.Colon n.1 >>= (λ r. name_at r >>= (λ d. Some (record { number = n.0; desc = d.0 }, d.1)))))
    (stream_complete s.number (token.Mark mark.Colon ∷ token.Name s.desc ∷ rest) (g.0)) ∙
    ap (λ (o : Option (Symbol × Text)). o >>= (λ (d : Symbol × Text). Some (record { number = s.number; desc = d.0 }, d.1))) (name_complete s.desc rest (g.1))

-- the inputs of a side and its descriptor
record Inputs {A : Type 0} (tokens : A → Text) (Fine : A → Type 0) (ts : Text) (xs : List A) (d : Symbol) (rest : Text) : Type 0 where
  some : has_some xs ≡ true
  every : Every Fine xs
  described : is_free d ≡ true
  text : ts ≡ token.Mark mark.OpenParen ∷ (commas (map tokens xs) ++ (token.Mark mark.CloseParen ∷ token.Mark mark.Colon ∷ token.Name d ∷ rest))

inputs_pieces : (ts a b c rest t : Text) (d : Symbol) → ts ≡ token.Mark mark.OpenParen ∷ a → a ≡ t ++ (token.Mark mark.CloseParen ∷ b) → b ≡ token.Mark mark.Colon ∷ c → c ≡ token.Name d ∷ rest
    → ts ≡ token.Mark mark.OpenParen ∷ (t ++ (token.Mark mark.CloseParen ∷ token.Mark mark.Colon ∷ token.Name d ∷ rest))
inputs_pieces ts a b c rest t d h1 h2 h3 h4 =
    h1 ∙ ap (λ us. token.Mark mark.OpenParen ∷ us) (h2 ∙ ap (λ us. t ++ (token.Mark mark.CloseParen ∷ us)) (h3 ∙ ap (λ us. token.Mark mark.Colon ∷ us) h4))

inputs_sound : {A : Type 0} (tokens : A → Text) (Fine : A → Type 0) (part : Reader A) → Sound tokens Fine part → (ts : Text) (x : (List A × Symbol) × Text) → inputs_at part ts ≡ Some x → Inputs tokens Fine ts x.0.0 x.0.1 x.1
unfolding inputs_at
inputs_sound {A} tokens Fine part sound ts x e =
    on_some (mark_at mark.OpenParen ts) (λ (r : Text). filled_at part mark.CloseParen r >>= (λ xs. mark_at mark.Colon xs.1 >>= (λ s. name_at s >>= (λ d. Some ((xs.0, d.0), d.1))))) x e (λ r h1 e.
    on_some (filled_at part mark.CloseParen r) (λ (xs : List A × Text). mark_at mark.Colon xs.1 >>= (λ s. name_at s >>= (λ d. Some ((xs.0, d.0), d.1)))) x e (λ xs h2 e.
    on_some (mark_at mark.Colon xs.1) (λ (s : Text). name_at s >>= (λ d. Some ((xs.0, d.0), d.1))) x e (λ s h3 e.
    on_some (name_at s) (λ (d : Symbol × Text). Some ((xs.0, d.0), d.1)) x e (λ d h4 e.
    let f = filled_sound tokens Fine part sound mark.CloseParen r xs h2 in
    let n = name_sound s d h4 in
    subst (λ (y : (List A × Symbol) × Text). Inputs tokens Fine ts y.0.0 y.0.1 y.1) (some_same ((xs.0, d.0), d.1) x e) (record {
      some = f.some;
      every = f.every;
      described = n.0;
      text = inputs_pieces ts r xs.1 s d.1 (commas (map tokens xs.0)) d.0 (mark_sound mark.OpenParen ts r h1) f.text (mark_sound mark.Colon xs.1 s h3) (n.1);
    })))))

inputs_complete : {A : Type 0} (tokens : A → Text) (Fine : A → Type 0) (part : Reader A) → Complete tokens Fine Any part → ((x : A) → 1 ≤ length (tokens x)) → Closes tokens Any mark.CloseParen →
    (xs : List A) (d : Symbol) → has_some xs ≡ true → Every Fine xs → is_free d ≡ true → (rest : Text) →
    inputs_at part (token.Mark mark.OpenParen ∷ (commas (map tokens xs) ++ (token.Mark mark.CloseParen ∷ token.Mark mark.Colon ∷ token.Name d ∷ rest))) ≡ Some ((xs, d), rest)
unfolding inputs_at
inputs_complete {A} tokens Fine part complete some closes xs d one every free rest =
    ap (λ (o : Option (List A × Text)). o >>= (λ (ys : List A × Text). mark_at mark.Colon ys.1 >>= (λ s. name_at s >>= (λ d. Some ((ys.0, d.0), d.1)))))
    (filled_complete tokens Fine Any part complete (λ ts. tt) some mark.CloseParen closes xs one every (token.Mark mark.Colon ∷ token.Name d ∷ rest)) ∙
    ap (λ (o : Option (Symbol × Text)). o >>= (λ (d : Symbol × Text). Some ((xs, d.0), d.1))) (name_complete d rest free)

-- the tokens of an operator with what stands between its parentheses, as the readers want them
operator_text : (o : Symbol) (t : Text) (d : Symbol) (rest : Text) → (name o ++ parens t ++ m mark.Colon ++ name d) ++ rest
    ≡ token.Name o ∷ token.Mark mark.OpenParen ∷ (t ++ (token.Mark mark.CloseParen ∷ token.Mark mark.Colon ∷ token.Name d ∷ rest))
operator_text o t d rest =
    let closed = t ++ m mark.CloseParen in
    ap (λ us. token.Name o ∷ token.Mark mark.OpenParen ∷ us)
    (append_assoc (closed ++ m mark.Colon) (name d) rest ∙ append_assoc closed (m mark.Colon) (name d ++ rest) ∙ append_assoc t (m mark.CloseParen) (token.Mark mark.Colon ∷ token.Name d ∷ rest))

-- an operator with its inputs and its descriptor
record IsNode {L : Type 0} (operator : Symbol → Symbol → L) (tokens : Tree L → Text) (Fine : Tree L → Type 0) (ts : Text) (t : Tree L) (rest : Text) : Type 0 where
  op : Symbol
  desc : Symbol
  inputs : List (Tree L)
  whole : t ≡ tree (operator op desc) inputs
  named : is_free op ≡ true
  described : is_free desc ≡ true
  some : has_some inputs ≡ true
  every : Every Fine inputs
  text : ts ≡ (name op ++ parens (commas (map tokens inputs)) ++ m mark.Colon ++ name desc) ++ rest

node_sound : {L : Type 0} (operator : Symbol → Symbol → L) (tokens : Tree L → Text) (Fine : Tree L → Type 0) (part : Reader (Tree L)) → Sound tokens Fine part → (ts : Text) (x : Tree L × Text) → node_at operator part ts ≡ Some x
    → IsNode operator tokens Fine ts x.0 x.1
unfolding node_at
node_sound {L} operator tokens Fine part sound ts x e =
    on_some (name_at ts) (λ (o : Symbol × Text). inputs_at part o.1 >>= (λ i. Some (tree (operator o.0 i.0.1) i.0.0, i.1))) x e (λ o h1 e.
    on_some (inputs_at part o.1) (λ (i : (List (Tree L) × Symbol) × Text). Some (tree (operator o.0 i.0.1) i.0.0, i.1)) x e (λ i h2 e.
    let n = name_sound ts o h1 in
    let s = inputs_sound tokens Fine part sound o.1 i h2 in
    subst (λ (y : Tree L × Text). IsNode operator tokens Fine ts y.0 y.1) (some_same (tree (operator o.0 i.0.1) i.0.0, i.1) x e) (record {
      op = o.0;
      desc = i.0.1;
      inputs = i.0.0;
      whole = refl;
      named = n.0;
      described = s.described;
      some = s.some;
      every = s.every;
      text = n.1 ∙ ap (λ us. token.Name o.0 ∷ us) s.text ∙ sym (operator_text o.0 (commas (map tokens i.0.0)) i.0.1 i.1);
    })))

node_complete : {L : Type 0} (operator : Symbol → Symbol → L) (tokens : Tree L → Text) (Fine : Tree L → Type 0) (part : Reader (Tree L)) → Complete tokens Fine Any part → ((x : Tree L) → 1 ≤ length (tokens x)) →
    Closes tokens Any mark.CloseParen → (o d : Symbol) (xs : List (Tree L)) → is_free o ≡ true → is_free d ≡ true → has_some xs ≡ true → Every Fine xs → (rest : Text) →
    node_at operator part ((name o ++ parens (commas (map tokens xs)) ++ m mark.Colon ++ name d) ++ rest) ≡ Some (tree (operator o d) xs, rest)
unfolding node_at
node_complete {L} operator tokens Fine part complete some closes o d xs named described one every rest =
    let behind = commas (map tokens xs) ++ (token.Mark mark.CloseParen ∷ token.Mark mark.Colon ∷ token.Name d ∷ rest) in
    ap (node_at operator part) (operator_text o (commas (map tokens xs)) d rest) ∙
    ap (λ (p : Option (Symbol × Text)). p >>= (λ (o : Symbol × Text). inputs_at part o.1 >>= (λ i. Some (tree (operator o.0 i.0.1) i.0.0, i.1)))) (name_complete o (token.Mark mark.OpenParen ∷ behind) named) ∙
    ap (λ (p : Option ((List (Tree L) × Symbol) × Text)). p >>= (λ (i : (List (Tree L) × Symbol) × Text). Some (tree (operator o i.0.1) i.0.0, i.1)))
    (inputs_complete tokens Fine part complete some closes xs d one every described rest)

four_true : (a b c d : Bool) → (a && b && c && d) ≡ true → (a ≡ true) × (b ≡ true) × (c ≡ true) × (d ≡ true)
four_true a b c d e = let p = both_true (a && b && c) d e in let q = both_true (a && b) c (p.0) in let r = both_true a b (q.0) in (r.0, r.1, q.1, p.1)

true_four : (a b c d : Bool) → a ≡ true → b ≡ true → c ≡ true → d ≡ true → (a && b && c && d) ≡ true
true_four a b c d e f g h = and_true (a && b && c) d (and_true (a && b) c (and_true a b e f) g) h

-- left sides
abbrev GoodLeft : ℕ → Tree LeftLabel → Type 0
GoodLeft n = Good spells_left left_levels n

abbrev GoodLeftIn : ℕ → Tree LeftLabel → Type 0
GoodLeftIn n = Good spells_left_in left_levels n

side_is_left_in : (t : Tree LeftLabel) → spells_left t ≡ true → spells_left_in t ≡ true
side_is_left_in (node (LeftLabel.operator o d) ls) h = h
side_is_left_in (node (LeftLabel.stream n d) ls) h = cc

left_some_token : (t : Tree LeftLabel) → 1 ≤ length (left_tokens t)
left_some_token (node (LeftLabel.operator o d) ls) = omega arith
left_some_token (node (LeftLabel.stream n d) ls) = omega arith

left_no_paren : (t : Tree LeftLabel) (rest : Text) → mark_at mark.CloseParen (left_tokens t ++ rest) ≡ None
left_no_paren (node (LeftLabel.operator o d) ls) rest = refl
left_no_paren (node (LeftLabel.stream n d) ls) rest = refl

left_closes : Closes left_tokens Any mark.CloseParen
left_closes = record { itself = λ rest. refl; no_comma = λ rest. refl; no_part = left_no_paren; ends = λ rest. tt }

left_in_sound : (n : ℕ) (read : Reader (Tree LeftLabel)) → Sound left_tokens (GoodLeft n) read → Sound left_tokens (GoodLeftIn n) (left_in_at read)
unfolding left_in_at
left_in_sound n read sound ts x e = next (marked mark.Question ts) e where
  next : (b : Bool) → (if b then (impl_in_at ts >>= (λ s. Some (tree (LeftLabel.stream s.0.number s.0.desc) [], s.1))) else read ts) ≡ Some x → GoodLeftIn n x.0 × (ts ≡ left_tokens x.0 ++ x.1)
  next false e = let s = sound ts x e in (record { spelled = side_is_left_in x.0 s.0.spelled; shallow = s.0.shallow }, s.1)
  next true e =
      on_some (impl_in_at ts) (λ (s : ImplIn × Text). Some (tree (LeftLabel.stream s.0.number s.0.desc) [], s.1)) x e (λ s h e.
      let g = impl_in_sound ts s h in
      subst (λ (y : Tree LeftLabel × Text). GoodLeftIn n y.0 × (ts ≡ left_tokens y.0 ++ y.1)) (some_same (tree (LeftLabel.stream s.0.number s.0.desc) [], s.1) x e)
      (record { spelled = and_true (spells_impl_in s.0) true (g.0) refl; shallow = omega arith }, g.1))

left_in_complete : (n : ℕ) (read : Reader (Tree LeftLabel)) → Complete left_tokens (GoodLeft n) Any read → Complete left_tokens (GoodLeftIn n) Any (left_in_at read)
unfolding left_in_at
left_in_complete n read complete (node (LeftLabel.operator o d) ls) good rest any = complete (node (LeftLabel.operator o d) ls) (record { spelled = good.spelled; shallow = good.shallow }) rest any
left_in_complete n read complete (node (LeftLabel.stream k d) (cons l ls)) good rest any = let b = both_true (nat_le k cap && is_free d) false good.spelled in absurd (cc (b.1))
left_in_complete n read complete (node (LeftLabel.stream k d) nil) good rest any =
    let b = both_true (nat_le k cap && is_free d) true good.spelled in
    ap (λ (o : Option (ImplIn × Text)). o >>= (λ (s : ImplIn × Text). Some (tree (LeftLabel.stream s.0.number s.0.desc) [], s.1))) (impl_in_complete (record { number = k; desc = d }) (b.0) rest tt)

left_node_sound : (n : ℕ) (ts : Text) (t : Tree LeftLabel) (rest : Text) → IsNode LeftLabel.operator left_tokens (GoodLeftIn n) ts t rest → GoodLeft (suc n) t × (ts ≡ left_tokens t ++ rest)
left_node_sound n ts t rest p =
    let shallow = every_shallow spells_left_in left_levels n p.inputs p.every in
    let few : lefts_levels (trees_of p.inputs) ≤ n = subst (λ (k : ℕ). k ≤ n) (sym (lefts_levels-list p.inputs)) shallow in
    subst (λ (u : Tree LeftLabel). GoodLeft (suc n) u × (ts ≡ left_tokens u ++ rest)) (sym p.whole) (
      record {
        spelled = true_four (is_free p.op) (is_free p.desc) (has_inputs (trees_of p.inputs)) (spells_left_ins (trees_of p.inputs)) p.named p.described (has_inputs-list p.inputs ∙ p.some)
            (spells_left_ins-list p.inputs ∙ every_spelled spells_left_in left_levels n p.inputs p.every);
        shallow = omega (arith, few);
      },
      p.text ∙ ap (λ us. (name p.op ++ parens (commas us) ++ m mark.Colon ++ name p.desc) ++ rest) (sym (lefts_tokens-list p.inputs)),
    )

-- a left side of at most n levels is read
pub left_sound : (n : ℕ) → Sound left_tokens (Good spells_left left_levels n) (left_at n)
unfolding left_at
left_sound zero ts x e = cc
left_sound (suc n) ts x e = left_node_sound n ts x.0 x.1 (node_sound LeftLabel.operator left_tokens (GoodLeftIn n) (left_in_at (left_at n)) (left_in_sound n (left_at n) (left_sound n)) ts x e)

left_node_complete : (n : ℕ) (part : Reader (Tree LeftLabel)) → Complete left_tokens (GoodLeftIn n) Any part → (o d : Symbol) (ls : List (Tree LeftLabel)) → spells_left (tree (LeftLabel.operator o d) ls) ≡ true →
    lefts_levels (trees_of ls) ≤ n → (rest : Text) → node_at LeftLabel.operator part (left_tokens (tree (LeftLabel.operator o d) ls) ++ rest) ≡ Some (tree (LeftLabel.operator o d) ls, rest)
left_node_complete n part complete o d ls spelled shallow rest =
    let g = four_true (is_free o) (is_free d) (has_inputs (trees_of ls)) (spells_left_ins (trees_of ls)) spelled in
    let every = good_every spells_left_in left_levels n ls (sym (spells_left_ins-list ls) ∙ g.3) (subst (λ (k : ℕ). k ≤ n) (lefts_levels-list ls) shallow) in
    ap (λ us. node_at LeftLabel.operator part ((name o ++ parens (commas us) ++ m mark.Colon ++ name d) ++ rest)) (lefts_tokens-list ls) ∙
    node_complete LeftLabel.operator left_tokens (GoodLeftIn n) part complete left_some_token left_closes o d ls (g.0) (g.1) (sym (has_inputs-list ls) ∙ g.2) every rest

pub left_complete : (n : ℕ) → Complete left_tokens (Good spells_left left_levels n) Any (left_at n)
unfolding left_at
left_complete n (node (LeftLabel.stream k d) ls) good rest any = absurd (cc good.spelled)
left_complete zero (node (LeftLabel.operator o d) ls) good rest any = let s = good.shallow in absurd (omega (arith, s))
left_complete (suc n) (node (LeftLabel.operator o d) ls) good rest any =
    let P : Trees LeftLabel → Type 0 = λ us. node_at LeftLabel.operator (left_in_at (left_at n)) (left_tokens (node (LeftLabel.operator o d) us) ++ rest) ≡ Some (node (LeftLabel.operator o d) us, rest) in
    let S : Trees LeftLabel → Type 0 = λ us. spells_left (node (LeftLabel.operator o d) us) ≡ true in
    let F : Trees LeftLabel → Type 0 = λ us. lefts_levels us ≤ n in
    let few : lefts_levels ls ≤ n = let s = good.shallow in omega (arith, s) in
    let same = trees_of_list_of ls in
    subst P same (left_node_complete n (left_in_at (left_at n)) (left_in_complete n (left_at n) (left_complete n)) o d (list_of ls) (subst S (sym same) good.spelled) (subst F (sym same) few) rest)

-- right sides
abbrev GoodRight : ℕ → Tree RightLabel → Type 0
GoodRight n = Good spells_right right_levels n

abbrev GoodRightIn : ℕ → Tree RightLabel → Type 0
GoodRightIn n = Good spells_right_in right_levels n

side_is_right_in : (t : Tree RightLabel) → spells_right t ≡ true → spells_right_in t ≡ true
side_is_right_in (node (RightLabel.operator o d) ls) h = h
side_is_right_in (node (RightLabel.stream n) ls) h = cc

right_some_token : (t : Tree RightLabel) → 1 ≤ length (right_tokens t)
right_some_token (node (RightLabel.operator o d) ls) = omega arith
right_some_token (node (RightLabel.stream n) ls) = omega arith

right_no_paren : (t : Tree RightLabel) (rest : Text) → mark_at mark.CloseParen (right_tokens t ++ rest) ≡ None
right_no_paren (node (RightLabel.operator o d) ls) rest = refl
right_no_paren (node (RightLabel.stream n) ls) rest = refl

right_closes : Closes right_tokens Any mark.CloseParen
right_closes = record { itself = λ rest. refl; no_comma = λ rest. refl; no_part = right_no_paren; ends = λ rest. tt }

right_in_sound : (n : ℕ) (read : Reader (Tree RightLabel)) → Sound right_tokens (GoodRight n) read → Sound right_tokens (GoodRightIn n) (right_in_at read)
unfolding right_in_at
right_in_sound n read sound ts x e = next (marked mark.Question ts) e where
  next : (b : Bool) → (if b then (stream_at ts >>= (λ k. Some (tree (RightLabel.stream k.0) [], k.1))) else read ts) ≡ Some x → GoodRightIn n x.0 × (ts ≡ right_tokens x.0 ++ x.1)
  next false e = let s = sound ts x e in (record { spelled = side_is_right_in x.0 s.0.spelled; shallow = s.0.shallow }, s.1)
  next true e =
      on_some (stream_at ts) (λ (k : ℕ × Text). Some (tree (RightLabel.stream k.0) [], k.1)) x e (λ k h e.
      let g = stream_sound ts k h in
      subst (λ (y : Tree RightLabel × Text). GoodRightIn n y.0 × (ts ≡ right_tokens y.0 ++ y.1)) (some_same (tree (RightLabel.stream k.0) [], k.1) x e)
      (record { spelled = and_true (nat_le k.0 cap) true (g.0) refl; shallow = omega arith }, g.1))

right_in_complete : (n : ℕ) (read : Reader (Tree RightLabel)) → Complete right_tokens (GoodRight n) Any read → Complete right_tokens (GoodRightIn n) Any (right_in_at read)
unfolding right_in_at
right_in_complete n read complete (node (RightLabel.operator o d) ls) good rest any = complete (node (RightLabel.operator o d) ls) (record { spelled = good.spelled; shallow = good.shallow }) rest any
right_in_complete n read complete (node (RightLabel.stream k) (cons l ls)) good rest any = let b = both_true (nat_le k cap) false good.spelled in absurd (cc (b.1))
right_in_complete n read complete (node (RightLabel.stream k) nil) good rest any =
    let b = both_true (nat_le k cap) true good.spelled in
    ap (λ (o : Option (ℕ × Text)). o >>= (λ (j : ℕ × Text). Some (tree (RightLabel.stream j.0) [], j.1))) (stream_complete k rest (b.0))

right_node_sound : (n : ℕ) (ts : Text) (t : Tree RightLabel) (rest : Text) → IsNode RightLabel.operator right_tokens (GoodRightIn n) ts t rest → GoodRight (suc n) t × (ts ≡ right_tokens t ++ rest)
right_node_sound n ts t rest p =
    let shallow = every_shallow spells_right_in right_levels n p.inputs p.every in
    let few : rights_levels (trees_of p.inputs) ≤ n = subst (λ (k : ℕ). k ≤ n) (sym (rights_levels-list p.inputs)) shallow in
    subst (λ (u : Tree RightLabel). GoodRight (suc n) u × (ts ≡ right_tokens u ++ rest)) (sym p.whole) (
      record {
        spelled = true_four (is_free p.op) (is_free p.desc) (has_inputs (trees_of p.inputs)) (spells_right_ins (trees_of p.inputs)) p.named p.described (has_inputs-list p.inputs ∙ p.some)
            (spells_right_ins-list p.inputs ∙ every_spelled spells_right_in right_levels n p.inputs p.every);
        shallow = omega (arith, few);
      },
      p.text ∙ ap (λ us. (name p.op ++ parens (commas us) ++ m mark.Colon ++ name p.desc) ++ rest) (sym (rights_tokens-list p.inputs)),
    )

-- a right side of at most n levels is read
pub right_sound : (n : ℕ) → Sound right_tokens (Good spells_right right_levels n) (right_at n)
unfolding right_at
right_sound zero ts x e = cc
right_sound (suc n) ts x e = right_node_sound n ts x.0 x.1 (node_sound RightLabel.operator right_tokens (GoodRightIn n) (right_in_at (right_at n)) (right_in_sound n (right_at n) (right_sound n)) ts x e)

right_node_complete : (n : ℕ) (part : Reader (Tree RightLabel)) → Complete right_tokens (GoodRightIn n) Any part → (o d : Symbol) (ls : List (Tree RightLabel)) → spells_right (tree (RightLabel.operator o d) ls) ≡ true →
    rights_levels (trees_of ls) ≤ n → (rest : Text) → node_at RightLabel.operator part (right_tokens (tree (RightLabel.operator o d) ls) ++ rest) ≡ Some (tree (RightLabel.operator o d) ls, rest)
right_node_complete n part complete o d ls spelled shallow rest =
    let g = four_true (is_free o) (is_free d) (has_inputs (trees_of ls)) (spells_right_ins (trees_of ls)) spelled in
    let every = good_every spells_right_in right_levels n ls (sym (spells_right_ins-list ls) ∙ g.3) (subst (λ (k : ℕ). k ≤ n) (rights_levels-list ls) shallow) in
    ap (λ us. node_at RightLabel.operator part ((name o ++ parens (commas us) ++ m mark.Colon ++ name d) ++ rest)) (rights_tokens-list ls) ∙
    node_complete RightLabel.operator right_tokens (GoodRightIn n) part complete right_some_token right_closes o d ls (g.0) (g.1) (sym (has_inputs-list ls) ∙ g.2) every rest

pub right_complete : (n : ℕ) → Complete right_tokens (Good spells_right right_levels n) Any (right_at n)
unfolding right_at
right_complete n (node (RightLabel.stream k) ls) good rest any = absurd (cc good.spelled)
right_complete zero (node (RightLabel.operator o d) ls) good rest any = let s = good.shallow in absurd (omega (arith, s))
right_complete (suc n) (node (RightLabel.operator o d) ls) good rest any =
    let P : Trees RightLabel → Type 0 = λ us. node_at RightLabel.operator (right_in_at (right_at n)) (right_tokens (node (RightLabel.operator o d) us) ++ rest) ≡ Some (node (RightLabel.operator o d) us, rest) in
    let S : Trees RightLabel → Type 0 = λ us. spells_right (node (RightLabel.operator o d) us) ≡ true in
    let F : Trees RightLabel → Type 0 = λ us. rights_levels us ≤ n in
    let few : rights_levels ls ≤ n = let s = good.shallow in omega (arith, s) in
    let same = trees_of_list_of ls in
    subst P same (right_node_complete n (right_in_at (right_at n)) (right_in_complete n (right_at n) (right_complete n)) o d (list_of ls) (subst S (sym same) good.spelled) (subst F (sym same) few) rest)

-- NAME | "Null"
alg_sound : (ts : Text) (x : AlgName × Text) → alg_at ts ≡ Some x → (spells_alg x.0 ≡ true) × (ts ≡ token.Name (alg_name x.0) ∷ x.1)
alg_sound ts x e = next (begins (codes "Null") ts) e where
  next : (b : Bool) → (if b then (word_at (codes "Null") ts >>= (λ r. Some (alg.Null, r))) else (name_at ts >>= (λ a. Some (alg.Named a.0, a.1)))) ≡ Some x → (spells_alg x.0 ≡ true) × (ts ≡ token.Name (alg_name x.0) ∷ x.1)
  next true e =
      on_some (word_at (codes "Null") ts) (λ (r : Text). Some (alg.Null, r)) x e (λ r h e.
      subst (λ (y : AlgName × Text). (spells_alg y.0 ≡ true) × (ts ≡ token.Name (alg_name y.0) ∷ y.1)) (some_same (alg.Null, r) x e) (refl, word_sound (codes "Null") ts r h))
  next false e =
      on_some (name_at ts) (λ (a : Symbol × Text). Some (alg.Named a.0, a.1)) x e (λ a h e.
      subst (λ (y : AlgName × Text). (spells_alg y.0 ≡ true) × (ts ≡ token.Name (alg_name y.0) ∷ y.1)) (some_same (alg.Named a.0, a.1) x e) (name_sound ts a h))

alg_complete : (a : AlgName) → spells_alg a ≡ true → (rest : Text) → alg_at (token.Name (alg_name a) ∷ rest) ≡ Some (a, rest)
alg_complete alg.Null h rest = refl
alg_complete (alg.Named a) h rest =
    ap (λ b. if b then (word_at (codes "Null") (token.Name a ∷ rest) >>= (λ r. Some (alg.Null, r))) else (name_at (token.Name a ∷ rest) >>= (λ a. Some (alg.Named a.0, a.1)))) (free_no_null a h) ∙
    ap (λ (o : Option (Symbol × Text)). o >>= (λ (a : Symbol × Text). Some (alg.Named a.0, a.1))) (name_complete a rest h)

-- right sides of I-rules
abbrev pub GoodImpl : ImplSide → Type 0
GoodImpl s = spells_impl s ≡ true

impl_in_some : (s : ImplIn) → 1 ≤ length (impl_in_tokens s)
impl_in_some s = omega arith

impl_in_closes : Closes impl_in_tokens Any mark.CloseParen
impl_in_closes = record { itself = λ rest. refl; no_comma = λ rest. refl; no_part = λ x rest. refl; ends = λ rest. tt }

pub impl_sound : Sound impl_tokens GoodImpl impl_at
unfolding impl_at
impl_sound ts x e =
    on_some (alg_at ts) (λ (a : AlgName × Text). inputs_at impl_in_at a.1 >>= (λ i. Some (record { alg = a.0; inputs = i.0.0; desc = i.0.1 }, i.1))) x e (λ a h1 e.
    on_some (inputs_at impl_in_at a.1) (λ (i : (List ImplIn × Symbol) × Text). Some (record { alg = a.0; inputs = i.0.0; desc = i.0.1 }, i.1)) x e (λ i h2 e.
    let n = alg_sound ts a h1 in
    let s = inputs_sound impl_in_tokens GoodIn impl_in_at impl_in_sound a.1 i h2 in
    subst (λ (y : ImplSide × Text). GoodImpl y.0 × (ts ≡ impl_tokens y.0 ++ y.1)) (some_same (record { alg = a.0; inputs = i.0.0; desc = i.0.1 }, i.1) x e) (
      true_four (spells_alg a.0) (has_some i.0.0) (list_all spells_impl_in i.0.0) (is_free i.0.1) (n.0) s.some (every_all spells_impl_in i.0.0 s.every) s.described,
      n.1 ∙ ap (λ us. token.Name (alg_name a.0) ∷ us) s.text ∙ sym (operator_text (alg_name a.0) (commas (map impl_in_tokens i.0.0)) i.0.1 i.1),
    )))

pub impl_complete : Complete impl_tokens GoodImpl Any impl_at
unfolding impl_at
impl_complete s good rest any =
    let g = four_true (spells_alg s.alg) (has_some s.inputs) (list_all spells_impl_in s.inputs) (is_free s.desc) good in
    let behind = commas (map impl_in_tokens s.inputs) ++ (token.Mark mark.CloseParen ∷ token.Mark mark.Colon ∷ token.Name s.desc ∷ rest) in
    ap impl_at (operator_text (alg_name s.alg) (commas (map impl_in_tokens s.inputs)) s.desc rest) ∙
    ap (λ (o : Option (AlgName × Text)). o >>= (λ (a : AlgName × Text). inputs_at impl_in_at a.1 >>= (λ i. Some (record { alg = a.0; inputs = i.0.0; desc = i.0.1 }, i.1))))
    (alg_complete s.alg (g.0) (token.Mark mark.OpenParen ∷ behind)) ∙
    ap (λ (o : Option ((List ImplIn × Symbol) × Text)). o >>= (λ (i : (List ImplIn × Symbol) × Text). Some (record { alg = s.alg; inputs = i.0.0; desc = i.0.1 }, i.1)))
    (inputs_complete impl_in_tokens GoodIn impl_in_at impl_in_complete impl_in_some impl_in_closes s.inputs s.desc (g.1) (all_every spells_impl_in s.inputs (g.2)) (g.3) rest)
