-- Symbols are texts: each of their bytes is ASCII.
use Rattle.std.proofs.Common.{◌≡◌, inl, inr, ℕ, zero, suc, ◌<◌, true, ◌&&◌, List, [], ◌∷◌, length, sym, ap, ◌∙◌, subst, arith}
use Rattle.std.proofs.lemmas.Bool.{and_parts, or_cases, or_left}
use Rattle.std.proofs.lemmas.Bool.Decides.{nat_tests}
use Rattle.std.proofs.lemmas.Str.{IsUtf8-from_ascii}
use Rattle.std.specs.Cmp.Lexicographic.{bytes_decides}
use Rattle.std.specs.List.{list_all}
use Rattle.std.specs.Prelude.{IsAscii, IsUtf8, nat_le}
use Rattle.std.specs.Str.{bytes_eq}
use Rattle.pr_value.specs.Symbols.{Symbol, dash, is_digit, is_letter, is_name, is_symbol, is_word, is_word_byte}

low_letter : (b : ℕ) → is_letter b ≡ true → b < 128
low_letter b is = grind (arith, nat_tests)

low_digit : (b : ℕ) → is_digit b ≡ true → b < 128
low_digit b is = grind (arith, nat_tests)

low_byte : (b : ℕ) → is_word_byte b ≡ true → b < 128
low_byte b is = elim (or_cases (is_letter b) (is_digit b) is) [ inl letter ↦ low_letter b letter | inr digit ↦ low_digit b digit ]

word_bytes-IsAscii : (bs : List ℕ) → list_all is_word_byte bs ≡ true → IsAscii bs
word_bytes-IsAscii [] all = λ i. omega arith
word_bytes-IsAscii (b ∷ bs) all = at_place (word_bytes-IsAscii bs (and_parts (is_word_byte b) (list_all is_word_byte bs) all).1) where
  at_place : IsAscii bs → IsAscii (b ∷ bs)
  at_place later zero = low_byte b (and_parts (is_word_byte b) (list_all is_word_byte bs) all).0
  at_place later (suc i) = later i

word-IsAscii : (s : Symbol) → is_word s ≡ true → IsAscii s
word-IsAscii [] is = λ i. omega arith
word-IsAscii (b ∷ bs) is =
    let parts = and_parts (is_letter b) (list_all is_word_byte bs) is in
    let first : is_word_byte b ≡ true = or_left (is_letter b) (is_digit b) parts.0 in
    word_bytes-IsAscii (b ∷ bs) (ap (λ t. t && list_all is_word_byte bs) first ∙ parts.1)

dash-IsAscii : IsAscii dash
dash-IsAscii zero = omega arith
dash-IsAscii (suc i) = omega arith

pub symbol_is_utf8 : (s : Symbol) → is_symbol s ≡ true → IsUtf8 s
symbol_is_utf8 s is = IsUtf8-from_ascii s (elim (or_cases (is_name s) (bytes_eq s dash) is) [
  | inl name ↦ word-IsAscii s (and_parts (is_word s) (nat_le (length s) 64) name).0
  | inr same ↦ subst IsAscii (sym ((bytes_decides s dash).0 same)) dash-IsAscii
])
