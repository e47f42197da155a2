-- A text has one list of tokens, or one fault, and tokens have a text.
use Rattle.std.specs.Prelude.{◌≡◌, ℕ, true, List, map}
use Rattle.std.specs.List.{list_all}
use Rattle.pr_value.specs.TokenTexts.{is_token, spaced}
use Rattle.pr_value.specs.declared.token.Token.{Token}
use Rattle.rule_lex.specs.declared.error.LexError.{LexError}
use Rattle.rule_lex.specs.Lexes.{Lexes, Refuses}

abbrev pub OneList : Type 0
OneList = (text : List ℕ) (ts us : List (Token × ℕ)) → Lexes text ts → Lexes text us → ts ≡ us

abbrev pub OneFault : Type 0
OneFault = (text : List ℕ) (e f : LexError) → Refuses text e → Refuses text f → e ≡ f

abbrev pub NeverBoth : Type 0
NeverBoth = (text : List ℕ) (ts : List (Token × ℕ)) (e : LexError) → Lexes text ts → Refuses text e → ⊥

-- the texts of tokens with blanks between are a text of just these tokens
abbrev pub SpacedLexes : Type 0
SpacedLexes = (ts : List Token) → list_all is_token ts ≡ true → (placed : List (Token × ℕ)) × Lexes (spaced ts) placed × (map (λ p. p.0) placed ≡ ts)
