-- Bytes are the text of one token at most, and a text begins with one lexeme at most.
use Rattle.std.proofs.Common.{◌≡◌, ℕ, true, ◌==◌, List, [], ◌∷◌, ◌++◌, Option, Some, None, refl, ap, sym, ◌∙◌, subst, arith}
use Rattle.std.specs.Prelude.{if◌then◌else◌}
use Rattle.std.specs.Str.{bytes_eq}
use Rattle.std.proofs.lemmas.Bool.{and_parts}
use Rattle.std.proofs.lemmas.Bool.Decides.{nat_tests}
use Rattle.std.proofs.lemmas.Option.{same_Some}
use Rattle.pr_value.proofs.Shelf.{cons-first, cons-rest}
use Rattle.pr_value.specs.Symbols.{is_letter, is_digit, is_word}
use Rattle.pr_value.specs.declared.token.Token.{Token}
use Rattle.pr_value.specs.declared.token.Token.TheVariants as token
use Rattle.pr_value.specs.declared.token.Mark.{Mark}
use Rattle.pr_value.specs.declared.token.Mark.TheVariants as mark
use Rattle.pr_value.specs.TokenTexts.{mark_text, quote}
use Rattle.rule_lex.specs.Lexemes.{is_numeral, Spells, IsLexeme, NoneBegins}

-- the mark with this text
abbrev find_mark : List Mark → List ℕ → Option Mark
find_mark [] bytes = None
find_mark (m ∷ ms) bytes = if bytes_eq (mark_text m) bytes then Some m else find_mark ms bytes

abbrev marks : List Mark
marks =
    mark.OpenBrace ∷ mark.CloseBrace ∷ mark.OpenBracket ∷ mark.CloseBracket ∷ mark.OpenParen ∷ mark.CloseParen ∷ mark.Comma ∷ mark.Semicolon
    ∷ mark.Colon ∷ mark.Dot ∷ mark.Question ∷ mark.Assign ∷ mark.Arrow ∷ mark.Equal ∷ mark.NotEqual ∷ mark.Less ∷ mark.LessEqual ∷ mark.Greater
    ∷ mark.GreaterEqual ∷ mark.Plus ∷ mark.Minus ∷ mark.Times ∷ mark.Slash ∷ mark.AndAnd ∷ mark.OrOr ∷ []

found : (m : Mark) → find_mark marks (mark_text m) ≡ Some m
found mark.OpenBrace = refl
found m = refl

pub one_mark : (m n : Mark) → mark_text m ≡ mark_text n → m ≡ n
one_mark m n e = same_Some m n (sym (found m) ∙ (ap (find_mark marks) e ∙ found n))

-- names begin with a letter, numbers with a digit, quoted symbols with the quote
abbrev kind_of_first : ℕ → ℕ
kind_of_first b = if is_letter b then 0 else (if is_digit b then 1 else (if b == quote then 2 else 3))

abbrev kind_of_text : List ℕ → ℕ
kind_of_text [] = 4
kind_of_text (b ∷ bs) = kind_of_first b

abbrev kind_of_token : Token → ℕ
kind_of_token (token.Name s) = 0
kind_of_token (token.Number n) = 1
kind_of_token (token.Quoted s) = 2
kind_of_token (token.Mark m) = 3

word_kind : (s : List ℕ) → is_word s ≡ true → kind_of_text s ≡ 0
word_kind [] e = cc
word_kind (b ∷ bs) e = let l : is_letter b ≡ true = (and_parts (is_letter b) _ e).0 in rw l refl

digit_kind : (b : ℕ) → is_digit b ≡ true → kind_of_first b ≡ 1
digit_kind b e = grind (arith, nat_tests)

numeral_kind : (s : List ℕ) → is_numeral s ≡ true → kind_of_text s ≡ 1
numeral_kind [] e = cc
numeral_kind (b ∷ bs) e = digit_kind b (and_parts (is_digit b) _ e).0

mark_kind : (m : Mark) → kind_of_text (mark_text m) ≡ 3
mark_kind mark.OpenBrace = refl
mark_kind m = refl

spelled_kind : (bytes : List ℕ) (t : Token) → Spells bytes t → kind_of_text bytes ≡ kind_of_token t
spelled_kind bytes (token.Name s) h = ap kind_of_text h.0 ∙ word_kind s h.1
spelled_kind bytes (token.Number n) h = numeral_kind bytes h.0
spelled_kind bytes (token.Quoted s) h = ap kind_of_text h.0
spelled_kind bytes (token.Mark m) h = ap kind_of_text h ∙ mark_kind m

one_of_kind : (bytes : List ℕ) (t u : Token) → kind_of_token t ≡ kind_of_token u → Spells bytes t → Spells bytes u → t ≡ u
one_of_kind bytes (token.Name s) (token.Name r) e a b = ap (λ (x : List ℕ). token.Name x) (sym a.0 ∙ b.0)
one_of_kind bytes (token.Number m) (token.Number n) e a b = ap (λ (x : ℕ). token.Number x) (sym a.1 ∙ b.1)
one_of_kind bytes (token.Quoted s) (token.Quoted r) e a b = ap (λ (x : List ℕ). token.Quoted x) (cons-rest quote quote s r (sym a.0 ∙ b.0))
one_of_kind bytes (token.Mark m) (token.Mark n) e a b = ap (λ (x : Mark). token.Mark x) (one_mark m n (sym a ∙ b))
one_of_kind bytes t u e a b = absurd (omega (arith, e))

pub one_text : (bytes : List ℕ) (t u : Token) → Spells bytes t → Spells bytes u → t ≡ u
one_text bytes t u a b = one_of_kind bytes t u (sym (spelled_kind bytes t a) ∙ spelled_kind bytes u b) a b

-- every token has a text of one byte or more
pub spells_some : (t : Token) → Spells [] t → ⊥
spells_some (token.Name s) h = absurd (omega (arith, spelled_kind [] (token.Name s) h))
spells_some t h = absurd (omega (arith, spelled_kind [] t h))

-- of two fronts of a text one is the longer, or they are the same
data Fronts (x r y s : List ℕ) : Type 0 where
  even : x ≡ y → r ≡ s → Fronts x r y s
  shorter : (b : ℕ) (more : List ℕ) → y ≡ x ++ b ∷ more → r ≡ (b ∷ more) ++ s → Fronts x r y s
  longer : (b : ℕ) (more : List ℕ) → x ≡ y ++ b ∷ more → s ≡ (b ∷ more) ++ r → Fronts x r y s

one_more : (a c : ℕ) (x r y s : List ℕ) → a ≡ c → Fronts x r y s → Fronts (a ∷ x) r (c ∷ y) s
one_more a c x r y s e (even f g) = even (cc) g
one_more a c x r y s e (shorter b more f g) = shorter b more (cc) g
one_more a c x r y s e (longer b more f g) = longer b more (cc) g

fronts : (x r y s : List ℕ) → x ++ r ≡ y ++ s → Fronts x r y s
fronts [] r [] s e = even refl e
fronts [] r (b ∷ y) s e = shorter b y refl e
fronts (a ∷ x) r [] s e = longer a x refl (sym e)
fronts (a ∷ x) r (b ∷ y) s e = one_more a b x r y s (cons-first a b (x ++ r) (y ++ s) e) (fronts x r y s (cons-rest a b (x ++ r) (y ++ s) e))

one_cut : (text : List ℕ) (t u : Token) (r s : List ℕ) (a : IsLexeme text t r) (b : IsLexeme text u s) → Fronts a.front r b.front s → (t ≡ u) × (r ≡ s)
one_cut text t u r s a b (even f g) = (one_text b.front t u (subst (λ (x : List ℕ). Spells x t) f a.spells) b.spells, g)
one_cut text t u r s a b (shorter c more f g) = absurd (a.longest c more s u g (subst (λ (x : List ℕ). Spells x u) f b.spells))
one_cut text t u r s a b (longer c more f g) = absurd (b.longest c more r t g (subst (λ (x : List ℕ). Spells x t) f a.spells))

pub one_lexeme : (text : List ℕ) (t u : Token) (r s : List ℕ) → IsLexeme text t r → IsLexeme text u s → (t ≡ u) × (r ≡ s)
one_lexeme text t u r s a b = one_cut text t u r s a b (fronts a.front r b.front s (sym a.cut ∙ b.cut))

pub lexeme_begins : (text : List ℕ) (t : Token) (rest : List ℕ) → IsLexeme text t rest → NoneBegins text → ⊥
lexeme_begins text t rest l none = none l.front rest t l.cut l.spells

empty_front : (x r : List ℕ) → [] ≡ x ++ r → x ≡ []
empty_front [] r e = refl
empty_front (b ∷ x) r e = cc

-- the empty text begins with no token
pub none_in_empty : NoneBegins []
none_in_empty front rest t cut spells = spells_some t (subst (λ (x : List ℕ). Spells x t) (empty_front front rest cut) spells)

pub lexeme_nonempty : (text : List ℕ) (t : Token) (rest : List ℕ) → IsLexeme text t rest → text ≡ [] → ⊥
lexeme_nonempty text t rest l e = lexeme_begins text t rest l (subst NoneBegins (sym e) none_in_empty)
