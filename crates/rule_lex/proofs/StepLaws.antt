-- What a step of the reading finds: a token that fits, or a fault.
use Rattle.std.proofs.Common.{◌≡◌, ℕ, ◌+◌, ◌<◌, ◌≤◌, true, List, [], ◌∷◌, ◌++◌, length, refl, sym, ap, subst, arith, inl, inr}
use Rattle.std.proofs.lemmas.List.{length-append}
use Rattle.pr_value.specs.Capped.{cap}
use Rattle.pr_value.specs.Symbols.{is_letter, is_digit, is_word_byte}
use Rattle.pr_value.specs.declared.token.Token.{Token}
use Rattle.pr_value.specs.declared.token.Token.TheVariants as token
use Rattle.rule_lex.specs.declared.error.LexError.{LexError}
use Rattle.rule_lex.specs.declared.error.LexError.TheVariants as error
use Rattle.rule_lex.specs.Gaps.{after_gap}
use Rattle.pr_value.specs.TokenTexts.{quote}
use Rattle.rule_lex.specs.Lexemes.{value_from, longest_name, Spells, IsLexeme}
use Rattle.rule_lex.specs.Lexes.{Leads, Lexes, IsFault, Refuses}
use Rattle.rule_lex.specs.Runs.{begins, IsRun}
use Rattle.rule_lex.specs.Steps.{Begins, BeginsSymbol}
use Rattle.rule_lex.proofs.ClassLaws.{name_lexeme, number_lexeme, quoted_lexeme}
use Rattle.rule_lex.proofs.LexemeLaws.{spells_some}
use Rattle.rule_lex.proofs.LexesLaws.{leads-push}

pub name_begins : (text word rest s : List ℕ) → IsRun is_word_byte text word rest → begins is_letter text ≡ true → (s ≡ word) × (length word ≤ longest_name) → Begins text (token.Name s) rest
name_begins text word rest s r l h = subst (λ (x : List ℕ). Begins text (token.Name x) rest) (sym h.0) (name_lexeme text word rest r l, h.1)

pub name_fault : (text word rest : List ℕ) (place : ℕ) (e : LexError) → IsRun is_word_byte text word rest → begins is_letter text ≡ true → (e ≡ error.NameTooLong place) × (longest_name < length word) → IsFault text place e
name_fault text word rest place e r l h = subst (λ (x : LexError). IsFault text place x) (sym h.0) (word, rest, h.1, inl (name_lexeme text word rest r l, refl))

pub quoted_begins : (text word rest s : List ℕ) → BeginsSymbol text word rest → (s ≡ word) × (length word ≤ longest_name) → Begins (quote ∷ text) (token.Quoted s) rest
quoted_begins text word rest s b h = subst (λ (x : List ℕ). Begins (quote ∷ text) (token.Quoted x) rest) (sym h.0) (quoted_lexeme text word rest b, h.1)

pub quoted_fault : (text word rest : List ℕ) (place : ℕ) (e : LexError) → BeginsSymbol text word rest → (e ≡ error.NameTooLong (place + 1)) × (longest_name < length word) → IsFault (quote ∷ text) place e
quoted_fault text word rest place e b h = subst (λ (x : LexError). IsFault (quote ∷ text) place x) (sym h.0) (word, rest, h.1, inr (quoted_lexeme text word rest b, refl))

pub number_begins : (text digits rest : List ℕ) (v : ℕ) → IsRun is_digit text digits rest → begins is_digit text ≡ true → (v ≡ value_from 0 digits) × (v ≤ cap) → Begins text (token.Number v) rest
number_begins text digits rest v r d h = (subst (λ (n : ℕ). IsLexeme text (token.Number n) rest) (sym h.0) (number_lexeme text digits rest r d), h.1)

pub number_fault : (text digits rest : List ℕ) (place : ℕ) → IsRun is_digit text digits rest → begins is_digit text ≡ true → cap < value_from 0 digits → IsFault text place (error.NumberTooBig place)
number_fault text digits rest place r d h = (refl, (value_from 0 digits, rest, h, number_lexeme text digits rest r d))

pub leads_on : (end : ℕ) (start : List ℕ) (ts us : List (Token × ℕ)) (here : List ℕ) (t : Token) (place : ℕ) (rest there : List ℕ) → Leads end start ts here → Begins here t rest → place + length here ≡ end → us ≡ ts ++ (t, place) ∷ [] → there ≡ after_gap rest → Leads end start us there
leads_on end start ts us here t place rest there l b at u g =
    subst (λ (x : List (Token × ℕ)). Leads end start x there) (sym u)
    (subst (λ (x : List ℕ). Leads end start (ts ++ (t, place) ∷ []) x) (sym g)
    (leads-push end start ts here t place rest l b.0 b.1 at))

pub refuses : (text : List ℕ) (ts : List (Token × ℕ)) (here : List ℕ) (place : ℕ) (e : LexError) → Leads (length text) (after_gap text) ts here → place + length here ≡ length text → IsFault here place e → Refuses text e
refuses text ts here place e l at f = (ts, here, place, l, at, f)

pub lexes : (text : List ℕ) (ts : List (Token × ℕ)) (here : List ℕ) → Leads (length text) (after_gap text) ts here → here ≡ [] → Lexes text ts
lexes text ts here l e = subst (λ (x : List ℕ). Leads (length text) (after_gap text) ts x) e l

shorter : (text front rest : List ℕ) (t : Token) → text ≡ front ++ rest → Spells front t → length rest < length text
shorter text [] rest t e h = absurd (spells_some t h)
shorter text (b ∷ bs) rest t e h = omega (arith, ap length e, length-append bs rest)

-- a token has a byte or more
pub lexeme_shorter : (text : List ℕ) (t : Token) (rest : List ℕ) → IsLexeme text t rest → length rest < length text
lexeme_shorter text t rest l = shorter text l.front rest t l.cut l.spells
