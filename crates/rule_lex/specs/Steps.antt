-- One token at the start of a text, by its first bytes.
use Rattle.std.specs.Prelude.{◌≡◌, ◌≢◌, ℕ, Bool, true, false, not, ◌&&◌, ◌||◌, ◌==◌, List, [], ◌∷◌, ◌++◌}
use Rattle.std.specs.Str.{bytes_eq}
use Rattle.pr_value.specs.Symbols.{Symbol, is_letter, is_word, is_word_byte, dash}
use Rattle.pr_value.specs.declared.token.Token.{Token}
use Rattle.pr_value.specs.declared.token.Mark.{Mark}
use Rattle.pr_value.specs.TokenTexts.{mark_text, quote}
use Rattle.rule_lex.specs.Lexemes.{IsLexeme, Fits}
use Rattle.rule_lex.specs.Runs.{begins}

-- the text begins with this token, which fits
abbrev pub Begins : List ℕ → Token → List ℕ → Type 0
Begins text t rest = IsLexeme text t rest × Fits t

-- the bytes are a name, however long, or `-`
abbrev pub is_quotable : Symbol → Bool
is_quotable s = is_word s || bytes_eq s dash

-- the text begins with these bytes of a symbol, and with no longer ones
abbrev pub BeginsSymbol : List ℕ → List ℕ → List ℕ → Type 0
BeginsSymbol text front rest = (text ≡ front ++ rest) × (is_quotable front ≡ true) × (is_word front ≡ true → begins is_word_byte rest ≡ false)

-- the byte `-`
abbrev pub is_dash : ℕ → Bool
is_dash b = b == 45

-- the text begins with no symbol
abbrev pub NoSymbol : List ℕ → Type 0
NoSymbol text = (begins is_letter text ≡ false) × (begins is_dash text ≡ false)

-- a byte that begins neither a name nor a number nor a quoted symbol
abbrev pub is_other : ℕ → Bool
is_other b = not (is_word_byte b) && not (b == quote)

-- no mark has this text
abbrev pub NoMark : List ℕ → Type 0
NoMark bytes = (m : Mark) → mark_text m ≢ bytes

-- the byte and the next one are no mark
abbrev pub NoPair : ℕ → List ℕ → Type 0
NoPair a bs = (b : ℕ) (rest : List ℕ) → bs ≡ b ∷ rest → NoMark (a ∷ b ∷ [])

-- the byte and what stands behind it begin with this mark of two bytes
abbrev pub IsPairAt : ℕ → List ℕ → Mark → List ℕ → Type 0
IsPairAt a bs m rest = (b : ℕ) × (bs ≡ b ∷ rest) × (mark_text m ≡ a ∷ b ∷ [])
