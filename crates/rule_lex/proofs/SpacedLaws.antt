-- The texts of tokens with blanks between have just these tokens.
use Rattle.std.proofs.Common.{◌≡◌, ℕ, ◌-◌, ◌≤◌, ◌<◌, ◌^◌, Bool, true, false, not, ◌&&◌, ◌||◌, ◌==◌, List, [], ◌∷◌, ◌++◌, length, map, Option, Some, None, refl, sym, ap, ◌∙◌, subst, arith, nat_le, inl, inr, append-nil, append_assoc}
use Rattle.std.specs.Prelude.{codes}
use Rattle.std.specs.Fmt.{decimal}
use Rattle.std.specs.List.{list_all}
use Rattle.std.proofs.lemmas.Bool.{and_parts, and_from, or_cases, both_ways}
use Rattle.std.proofs.lemmas.Bool.Decides.{nat_tests}
use Rattle.std.proofs.lemmas.Slice.Eq.{bytes_eq-Decides}
use Rattle.std.proofs.lemmas.List.{length-append}
use Rattle.std.proofs.lemmas.Fmt.{digits_decimal, digits_value-decimal, decimal_nonempty}
use Rattle.std.proofs.lemmas.Str.Parse.{IsNumeralModel, IsDigitsTest, FoldsDigits, numerals_by_fold}
use Rattle.pr_value.specs.Capped.{cap}
use Rattle.pr_value.specs.Symbols.{is_letter, is_digit, is_word, is_word_byte, is_name, is_symbol, dash}
use Rattle.pr_value.specs.TokenTexts.{mark_text, quote, token_text, is_token, spaced}
use Rattle.pr_value.specs.declared.token.Token.{Token}
use Rattle.pr_value.specs.declared.token.Token.TheVariants as token
use Rattle.pr_value.specs.declared.token.Mark.{Mark}
use Rattle.pr_value.specs.declared.token.Mark.TheVariants as mark
use Rattle.rule_lex.specs.Gaps.{is_blank, after_gap}
use Rattle.rule_lex.specs.Lexemes.{is_numeral, value_from, Spells, IsLexeme, Fits}
use Rattle.rule_lex.specs.Lexes.{Leads}
use Rattle.rule_lex.specs.Laws.{SpacedLexes}
use Rattle.rule_lex.specs.Runs.{begins}
use Rattle.rule_lex.specs.Steps.{is_other, BeginsSymbol}
use Rattle.rule_lex.proofs.RunLaws.{passes_within}
use Rattle.rule_lex.proofs.ClassLaws.{First, first, letter_in_word, first_of_mark, name_lexeme, number_lexeme, quoted_lexeme}

-- ---- decimal digits

digits_test : IsDigitsTest (λ ds. list_all is_digit ds ≡ true)
digits_test = record {
  empty = refl;
  parts = λ c cs e. let k = and_parts (is_digit c) _ e in (grind (arith, nat_tests, k.0), k.1);
  more = λ c cs k e. and_from (is_digit c) _ (grind (arith, nat_tests, k)) e;
}

folds_value : FoldsDigits value_from
folds_value = record { empty = λ n. refl; more = λ n c cs k. ap (λ m. value_from m cs) (omega arith) }

numerals : IsNumeralModel (λ ds. list_all is_digit ds ≡ true) (value_from 0)
numerals = numerals_by_fold (λ ds. list_all is_digit ds ≡ true) digits_test value_from folds_value

-- ---- what stands behind a token: nothing, or a blank and more

abbrev behind : Option (List ℕ) → List ℕ
behind None = []
behind (Some more) = 32 ∷ more

behind_stops : (test : ℕ → Bool) (o : Option (List ℕ)) → test 32 ≡ false → begins test (behind o) ≡ false
behind_stops test None e = refl
behind_stops test (Some more) e = e

-- the first byte behind a token is a blank
behind_blank : (o : Option (List ℕ)) (b : ℕ) (more after : List ℕ) → behind o ≡ (b ∷ more) ++ after → b ≡ 32
behind_blank None b more after e = cc
behind_blank (Some rest) b more after e = cc

-- ---- each token is the longest at its start

word_run : (s : List ℕ) → is_word s ≡ true → list_all is_word_byte s ≡ true
word_run [] w = cc
word_run (b ∷ bs) w = let k = and_parts (is_letter b) _ w in and_from (is_word_byte b) _ (letter_in_word b k.0) k.1

begins_word : (s rest : List ℕ) → is_word s ≡ true → begins is_letter (s ++ rest) ≡ true
begins_word [] rest w = cc
begins_word (b ∷ bs) rest w = (and_parts (is_letter b) _ w).0

begins_digits : (ds rest : List ℕ) → is_numeral ds ≡ true → begins is_digit (ds ++ rest) ≡ true
begins_digits [] rest w = cc
begins_digits (b ∷ bs) rest w = (and_parts (is_digit b) _ w).0

numeral_some : (ds : List ℕ) → list_all is_digit ds ≡ true → 0 < length ds → is_numeral ds ≡ true
numeral_some [] e some = absurd (omega (arith, some))
numeral_some (b ∷ bs) e some = e

small : (n : ℕ) → nat_le n cap ≡ true → n ≤ cap
small n e = grind (arith, nat_tests, e)

-- no text of a mark has a blank
no_blank : (m : Mark) → list_all (λ b. not (b == 32)) (mark_text m) ≡ true
no_blank mark.OpenBrace = refl
no_blank m = refl

letter_no_other : (a : ℕ) → is_letter a ≡ true → is_other a ≡ true → ⊥
letter_no_other a l o = grind (arith, nat_tests, l, o)

digit_no_other : (a : ℕ) → is_digit a ≡ true → is_other a ≡ true → ⊥
digit_no_other a d o = grind (arith, nat_tests, d, o)

quote_no_other : (a : ℕ) → a ≡ quote → is_other a ≡ true → ⊥
quote_no_other a q o = both_ways (is_other quote) refl (ap is_other (sym q) ∙ o)

-- what begins with another byte is a mark
other_more : (text rest : List ℕ) (u : Token) → begins is_other text ≡ true → Spells (text ++ rest) u → (m : Mark) × (u ≡ token.Mark m)
other_more [] rest u o h = cc
other_more (a ∷ bs) rest u o h = by_class u (first a (bs ++ rest) u h) where
  by_class : (v : Token) → First a v → (m : Mark) × (v ≡ token.Mark m)
  by_class (token.Name s) f = absurd (letter_no_other a f o)
  by_class (token.Number n) f = absurd (digit_no_other a f o)
  by_class (token.Quoted s) f = absurd (quote_no_other a f o)
  by_class (token.Mark m) f = (m, refl)

-- a mark and a blank begin the text of no token
mark_more : (m : Mark) (more : List ℕ) (u : Token) → Spells (mark_text m ++ 32 ∷ more) u → ⊥
mark_more m more u h =
    let k = other_more (mark_text m) (32 ∷ more) u (first_of_mark m) h in
    let text : mark_text m ++ 32 ∷ more ≡ mark_text k.0 = subst (λ (v : Token). Spells (mark_text m ++ 32 ∷ more) v) k.1 h in
    both_ways (not (32 == 32)) refl (passes_within (λ b. not (b == 32)) (mark_text m) 32 more (ap (list_all (λ b. not (b == 32))) text ∙ no_blank k.0))

mark_lexeme : (m : Mark) (o : Option (List ℕ)) → IsLexeme (mark_text m ++ behind o) (token.Mark m) (behind o)
mark_lexeme m o = record {
  front = mark_text m;
  cut = refl;
  spells = refl;
  longest = λ b more after u e h. mark_more m more u (subst (λ (c : ℕ). Spells (mark_text m ++ c ∷ more) u) (behind_blank o b more after e) h);
}

symbol_begins : (s : List ℕ) (o : Option (List ℕ)) → is_symbol s ≡ true → BeginsSymbol (s ++ behind o) s (behind o)
symbol_begins s o e = (refl, quotable (is_word s) (nat_le (length s) 64) _ e, λ w. behind_stops is_word_byte o refl) where
  quotable : (a b c : Bool) → ((a && b) || c) ≡ true → (a || c) ≡ true
  quotable true b c e = refl
  quotable false b c e = e

-- a token's text with nothing or a blank behind it
token_lexeme : (t : Token) (o : Option (List ℕ)) → is_token t ≡ true → IsLexeme (token_text t ++ behind o) t (behind o)
token_lexeme (token.Name s) o e =
    let w = (and_parts (is_word s) _ e).0 in
    name_lexeme (s ++ behind o) s (behind o) (refl, word_run s w, behind_stops is_word_byte o refl) (begins_word s (behind o) w)
token_lexeme (token.Number n) o e =
    let low : n < 2 ^ 64 = omega (arith, small n e) in
    let numeral = numeral_some (decimal n) (digits_decimal numerals n low) (decimal_nonempty n low) in
    subst (λ (k : ℕ). IsLexeme (decimal n ++ behind o) (token.Number k) (behind o)) (digits_value-decimal numerals n low)
    (number_lexeme (decimal n ++ behind o) (decimal n) (behind o) (refl, digits_decimal numerals n low, behind_stops is_digit o refl) (begins_digits (decimal n) (behind o) numeral))
token_lexeme (token.Quoted s) o e = quoted_lexeme (s ++ behind o) s (behind o) (symbol_begins s o e)
token_lexeme (token.Mark m) o e = mark_lexeme m o

symbol_short : (s : List ℕ) → is_symbol s ≡ true → length s ≤ 64
symbol_short s e = elim (or_cases (is_name s) _ e) [
  | inl name ↦ short (length s) (and_parts (is_word s) _ name).1
  | inr is ↦ omega (arith, ap length ((bytes_eq-Decides s dash).0 is))
]
  where
    short : (n : ℕ) → nat_le n 64 ≡ true → n ≤ 64
    short n e = grind (arith, nat_tests, e)

token_fits : (t : Token) → is_token t ≡ true → Fits t
token_fits (token.Name s) e = grind (arith, nat_tests, e)
token_fits (token.Number n) e = small n e
token_fits (token.Quoted s) e = symbol_short s e
token_fits (token.Mark m) e = tt

-- ---- gaps

-- no gap stands before a byte that is neither a blank nor `/`
no_gap : (b : ℕ) (bs : List ℕ) → is_blank b ≡ false → (b == 47) ≡ false → after_gap (b ∷ bs) ≡ b ∷ bs
no_gap b [] blank slash = search
no_gap b (c ∷ cs) blank slash = search

mark_gap : (m : Mark) (o : Option (List ℕ)) → after_gap (mark_text m ++ behind o) ≡ mark_text m ++ behind o
mark_gap mark.OpenBrace None = refl
mark_gap mark.OpenBrace (Some more) = refl
mark_gap m None = refl
mark_gap m (Some more) = refl

letter_gap : (b : ℕ) → is_letter b ≡ true → (is_blank b ≡ false) × ((b == 47) ≡ false)
letter_gap b l = (grind (arith, nat_tests, l), grind (arith, nat_tests, l))

digit_gap : (b : ℕ) → is_digit b ≡ true → (is_blank b ≡ false) × ((b == 47) ≡ false)
digit_gap b d = (grind (arith, nat_tests, d), grind (arith, nat_tests, d))

word_gap : (s rest : List ℕ) → is_word s ≡ true → after_gap (s ++ rest) ≡ s ++ rest
word_gap [] rest w = cc
word_gap (b ∷ bs) rest w = let k = letter_gap b (and_parts (is_letter b) _ w).0 in no_gap b (bs ++ rest) k.0 k.1

numeral_gap : (ds rest : List ℕ) → is_numeral ds ≡ true → after_gap (ds ++ rest) ≡ ds ++ rest
numeral_gap [] rest w = cc
numeral_gap (b ∷ bs) rest w = let k = digit_gap b (and_parts (is_digit b) _ w).0 in no_gap b (bs ++ rest) k.0 k.1

-- no gap stands before a token
token_gap : (t : Token) (o : Option (List ℕ)) → is_token t ≡ true → after_gap (token_text t ++ behind o) ≡ token_text t ++ behind o
token_gap (token.Name s) o e = word_gap s (behind o) (and_parts (is_word s) _ e).0
token_gap (token.Number n) o e =
    let low : n < 2 ^ 64 = omega (arith, small n e) in
    numeral_gap (decimal n) (behind o) (numeral_some (decimal n) (digits_decimal numerals n low) (decimal_nonempty n low))
token_gap (token.Quoted s) o e = no_gap quote (s ++ behind o) refl refl
token_gap (token.Mark m) o e = mark_gap m o

-- ---- tokens with blanks between

-- what stands behind the first token
abbrev others : List Token → Option (List ℕ)
others [] = None
others (t ∷ ts) = Some (spaced (t ∷ ts))

spaced_parts : (t : Token) (ts : List Token) → spaced (t ∷ ts) ≡ token_text t ++ behind (others ts)
spaced_parts t [] = sym (append-nil (token_text t))
spaced_parts t (u ∷ ts) = append_assoc (token_text t) (codes " ") (spaced (u ∷ ts))

spaced_gap : (ts : List Token) → list_all is_token ts ≡ true → after_gap (spaced ts) ≡ spaced ts
spaced_gap [] e = refl
spaced_gap (t ∷ ts) e = ap after_gap (spaced_parts t ts) ∙ (token_gap t (others ts) (and_parts (is_token t) _ e).0 ∙ sym (spaced_parts t ts))

behind_gap : (ts : List Token) → list_all is_token ts ≡ true → after_gap (behind (others ts)) ≡ spaced ts
behind_gap [] e = refl
behind_gap (t ∷ ts) e = spaced_gap (t ∷ ts) e

leads : (end : ℕ) (ts : List Token) → list_all is_token ts ≡ true → length (spaced ts) ≤ end → (placed : List (Token × ℕ)) × Leads end (spaced ts) placed [] × (map (λ (p : Token × ℕ). p.0) placed ≡ ts)
leads end [] e few = ([], refl, refl)
leads end (t ∷ ts) e few =
    let k = and_parts (is_token t) _ e in
    let parts = spaced_parts t ts in
    let rest = behind (others ts) in
    let gap = behind_gap ts k.1 in
    let fewer : length (spaced ts) ≤ end = shorter t ts few in
    let on = leads end ts k.1 fewer in
    let place : ℕ = end - length (spaced (t ∷ ts)) in (
      (t, place) ∷ on.0,
      (rest, subst (λ (x : List ℕ). IsLexeme x t rest) (sym parts) (token_lexeme t (others ts) k.0), token_fits t k.0, omega (arith, few), subst (λ (x : List ℕ). Leads end x on.0 []) (sym gap) on.1),
      ap (λ (us : List Token). t ∷ us) on.2,
    )
  where
    shorter : (t : Token) (ts : List Token) → length (spaced (t ∷ ts)) ≤ end → length (spaced ts) ≤ end
    shorter t [] few = omega arith
    shorter t (u ∷ ts) few = omega (arith, few, ap length (spaced_parts t (u ∷ ts)), length-append (token_text t) (32 ∷ spaced (u ∷ ts)))

pub spaced_lexes : SpacedLexes
spaced_lexes ts e =
    let on = leads (length (spaced ts)) ts e (omega arith) in
    (on.0, subst (λ (x : List ℕ). Leads (length (spaced ts)) x on.0 []) (sym (spaced_gap ts e)) on.1, on.2)
