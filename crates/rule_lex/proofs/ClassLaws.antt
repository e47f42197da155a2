-- Names, numbers and quoted symbols as lexemes: no token of any class is longer.
use Rattle.std.proofs.Common.{◌≡◌, ℕ, Bool, true, false, List, [], ◌∷◌, ◌++◌, length, refl, sym, ap, ◌∙◌, arith, ◌⊎◌, inl, inr}
use Rattle.std.specs.List.{list_all}
use Rattle.std.specs.Str.{bytes_eq}
use Rattle.std.proofs.lemmas.Bool.{and_parts, and_from, or_left, or_right, or_cases, both_ways}
use Rattle.std.proofs.lemmas.Bool.Decides.{nat_tests}
use Rattle.std.proofs.lemmas.Slice.Eq.{bytes_eq-Decides}
use Rattle.pr_value.proofs.Shelf.{cons-first, cons-rest}
use Rattle.pr_value.specs.Symbols.{is_letter, is_digit, is_word, is_word_byte, dash}
use Rattle.pr_value.specs.declared.token.Token.{Token}
use Rattle.pr_value.specs.declared.token.Token.TheVariants as token
use Rattle.pr_value.specs.declared.token.Mark.{Mark}
use Rattle.pr_value.specs.declared.token.Mark.TheVariants as mark
use Rattle.pr_value.specs.TokenTexts.{mark_text, quote}
use Rattle.rule_lex.specs.Lexemes.{is_numeral, value_from, Spells, IsLexeme}
use Rattle.rule_lex.specs.Runs.{begins, IsRun}
use Rattle.rule_lex.specs.Steps.{is_quotable, is_other, BeginsSymbol}
use Rattle.rule_lex.proofs.RunLaws.{passes_within}

-- what the first byte of a token of each class is
abbrev pub First : ℕ → Token → Type 0
First a (token.Name s) = is_letter a ≡ true
First a (token.Number n) = is_digit a ≡ true
First a (token.Quoted s) = a ≡ quote
First a (token.Mark m) = is_other a ≡ true

pub first_of_mark : (m : Mark) → begins is_other (mark_text m) ≡ true
first_of_mark mark.OpenBrace = refl
first_of_mark m = refl

pub first : (a : ℕ) (bs : List ℕ) (u : Token) → Spells (a ∷ bs) u → First a u
first a bs (token.Name s) h = (and_parts (is_letter a) _ (ap is_word h.0 ∙ h.1)).0
first a bs (token.Number n) h = (and_parts (is_digit a) _ h.0).0
first a bs (token.Quoted s) h = cons-first a quote bs s h.0
first a bs (token.Mark m) h = ap (begins is_other) h ∙ first_of_mark m

letter_no_digit : (a : ℕ) → is_letter a ≡ true → is_digit a ≡ true → ⊥
letter_no_digit a l d = grind (arith, nat_tests)

letter_no_quote : (a : ℕ) → is_letter a ≡ true → a ≡ quote → ⊥
letter_no_quote a l e = grind (arith, nat_tests)

digit_no_quote : (a : ℕ) → is_digit a ≡ true → a ≡ quote → ⊥
digit_no_quote a d e = grind (arith, nat_tests)

word_no_other : (a : ℕ) → is_word_byte a ≡ true → is_other a ≡ true → ⊥
word_no_other a w o = cc

pub letter_in_word : (a : ℕ) → is_letter a ≡ true → is_word_byte a ≡ true
letter_in_word a l = or_left (is_letter a) (is_digit a) l

digit_in_word : (a : ℕ) → is_digit a ≡ true → is_word_byte a ≡ true
digit_in_word a d = or_right (is_letter a) (is_digit a) d

-- the word goes on no further
name_more : (front : List ℕ) (b : ℕ) (more : List ℕ) (u : Token) → is_word front ≡ true → is_word_byte b ≡ false → Spells (front ++ b ∷ more) u → ⊥
name_more [] b more u w n h = cc
name_more (a ∷ bs) b more u w n h = by_class u h (first a (bs ++ b ∷ more) u h) where
  l : is_letter a ≡ true
  l = (and_parts (is_letter a) _ w).0

  by_class : (u : Token) → Spells (a ∷ bs ++ b ∷ more) u → First a u → ⊥
  by_class (token.Name s) h f = both_ways (is_word_byte b) n (passes_within is_word_byte bs b more (and_parts (is_letter a) _ (ap is_word h.0 ∙ h.1)).1)
  by_class (token.Number k) h f = letter_no_digit a l f
  by_class (token.Quoted s) h f = letter_no_quote a l f
  by_class (token.Mark m) h f = word_no_other a (letter_in_word a l) f

-- the digits go on no further
number_more : (front : List ℕ) (b : ℕ) (more : List ℕ) (u : Token) → is_numeral front ≡ true → is_digit b ≡ false → Spells (front ++ b ∷ more) u → ⊥
number_more [] b more u w n h = cc
number_more (a ∷ bs) b more u w n h = by_class u h (first a (bs ++ b ∷ more) u h) where
  d : is_digit a ≡ true
  d = (and_parts (is_digit a) _ w).0

  by_class : (u : Token) → Spells (a ∷ bs ++ b ∷ more) u → First a u → ⊥
  by_class (token.Name s) h f = letter_no_digit a f d
  by_class (token.Number k) h f = both_ways (is_digit b) n (passes_within is_digit (a ∷ bs) b more h.0)
  by_class (token.Quoted s) h f = digit_no_quote a d f
  by_class (token.Mark m) h f = word_no_other a (digit_in_word a d) f

dash_is : (s : List ℕ) → bytes_eq s dash ≡ true → s ≡ dash
dash_is s e = (bytes_eq-Decides s dash).0 e

-- neither `-` nor a word with more bytes is `-`
longer_no_dash : (front : List ℕ) (b : ℕ) (more : List ℕ) → is_quotable front ≡ true → front ++ b ∷ more ≡ dash → ⊥
longer_no_dash [] b more q e = cc
longer_no_dash (a ∷ []) b more q e = absurd (omega (arith, ap length e))
longer_no_dash (a ∷ c ∷ bs) b more q e = absurd (omega (arith, ap length e))

-- what begins like `-` is no word
dash_no_word : (front : List ℕ) (b : ℕ) (more : List ℕ) → front ≡ dash → is_word (front ++ b ∷ more) ≡ true → ⊥
dash_no_word front b more e w = both_ways (is_word (front ++ b ∷ more)) (ap (λ (x : List ℕ). is_word (x ++ b ∷ more)) e) w

word_within : (front : List ℕ) (b : ℕ) (more : List ℕ) → is_word front ≡ true → is_word (front ++ b ∷ more) ≡ true → is_word_byte b ≡ true
word_within [] b more v w = cc
word_within (a ∷ bs) b more v w = passes_within is_word_byte bs b more (and_parts (is_letter a) _ w).1

-- the symbol goes on no further
symbol_more : (front : List ℕ) (b : ℕ) (more : List ℕ) → is_quotable front ≡ true → (is_word front ≡ true → is_word_byte b ≡ false) → is_quotable (front ++ b ∷ more) ≡ true → ⊥
symbol_more front b more q n h = by_case (or_cases (is_word front) _ q) (or_cases (is_word (front ++ b ∷ more)) _ h) where
  by_case : ((is_word front ≡ true) ⊎ (bytes_eq front dash ≡ true)) → ((is_word (front ++ b ∷ more) ≡ true) ⊎ (bytes_eq (front ++ b ∷ more) dash ≡ true)) → ⊥
  by_case x (inr e) = longer_no_dash front b more q (dash_is (front ++ b ∷ more) e)
  by_case (inl v) (inl w) = both_ways (is_word_byte b) (n v) (word_within front b more v w)
  by_case (inr d) (inl w) = dash_no_word front b more (dash_is front d) w

quoted_more : (front : List ℕ) (b : ℕ) (more : List ℕ) (u : Token) → is_quotable front ≡ true → (is_word front ≡ true → is_word_byte b ≡ false) → Spells ((quote ∷ front) ++ b ∷ more) u → ⊥
quoted_more front b more u q n h = by_class u h (first quote (front ++ b ∷ more) u h) where
  by_class : (u : Token) → Spells (quote ∷ front ++ b ∷ more) u → First quote u → ⊥
  by_class (token.Name s) h f = cc
  by_class (token.Number k) h f = cc
  by_class (token.Quoted s) h f = symbol_more front b more q n (ap is_quotable (cons-rest quote quote (front ++ b ∷ more) s h.0) ∙ h.1)
  by_class (token.Mark m) h f = cc

-- the first byte behind the front does not pass
next_fails : (test : ℕ → Bool) (rest : List ℕ) (b : ℕ) (more after : List ℕ) → begins test rest ≡ false → rest ≡ (b ∷ more) ++ after → test b ≡ false
next_fails test rest b more after e f = sym (ap (begins test) f) ∙ e

-- a run of word bytes that begins with a letter is a word
word_front : (front rest : List ℕ) → list_all is_word_byte front ≡ true → begins is_word_byte rest ≡ false → begins is_letter (front ++ rest) ≡ true → is_word front ≡ true
word_front [] [] a s l = cc
word_front [] (b ∷ rest) a s l = absurd (both_ways (is_word_byte b) s (letter_in_word b l))
word_front (b ∷ bs) rest a s l = and_from (is_letter b) _ l (and_parts (is_word_byte b) _ a).1

-- a run of digits that begins with a digit is a numeral
digits_front : (front rest : List ℕ) → list_all is_digit front ≡ true → begins is_digit rest ≡ false → begins is_digit (front ++ rest) ≡ true → is_numeral front ≡ true
digits_front [] rest a s l = absurd (both_ways (begins is_digit rest) s l)
digits_front (b ∷ bs) rest a s l = a

word_is : (text front rest : List ℕ) → IsRun is_word_byte text front rest → begins is_letter text ≡ true → is_word front ≡ true
word_is text front rest r l = word_front front rest r.1 r.2 (sym (ap (begins is_letter) r.0) ∙ l)

pub name_lexeme : (text front rest : List ℕ) → IsRun is_word_byte text front rest → begins is_letter text ≡ true → IsLexeme text (token.Name front) rest
name_lexeme text front rest r l = record {
  front = front;
  cut = r.0;
  spells = (refl, word_is text front rest r l);
  longest = λ b more after u e h. name_more front b more u (word_is text front rest r l) (next_fails is_word_byte rest b more after r.2 e) h;
}

pub number_lexeme : (text front rest : List ℕ) → IsRun is_digit text front rest → begins is_digit text ≡ true → IsLexeme text (token.Number (value_from 0 front)) rest
number_lexeme text front rest r d =
    let n : is_numeral front ≡ true = digits_front front rest r.1 r.2 (sym (ap (begins is_digit) r.0) ∙ d) in
    record {
      front = front;
      cut = r.0;
      spells = (n, refl);
      longest = λ b more after u e h. number_more front b more u n (next_fails is_digit rest b more after r.2 e) h;
    }

pub quoted_lexeme : (text front rest : List ℕ) → BeginsSymbol text front rest → IsLexeme (quote ∷ text) (token.Quoted front) rest
quoted_lexeme text front rest s = record {
  front = quote ∷ front;
  cut = ap (λ (x : List ℕ). quote ∷ x) s.0;
  spells = (refl, s.1);
  longest = λ b more after u e h. quoted_more front b more u s.1 (λ w. next_fails is_word_byte rest b more after (s.2 w) e) h;
}
