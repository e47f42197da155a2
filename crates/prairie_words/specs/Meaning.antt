-- What a list of words means.
use Rattle.std.specs.Prelude.{◌≡◌, ℕ, suc, ◌≤◌, Bool, true, false, ◌==◌, if◌then◌else◌, List, [], ◌∷◌, ◌++◌, codes}
use Rattle.std.specs.Str.Parse.{IsNumeral, digits_value}
use Rattle.prairie_words.specs.declared.limits.Limits.{Limits}
use Rattle.prairie_words.specs.declared.limits.Quantity.{Quantity}
use Rattle.prairie_words.specs.declared.limits.Quantity.TheVariants.{Memo, Rounds, Goals}
use Rattle.prairie_words.specs.Commands.{Word, Names, Command, plan, certify, check, p2v, trial, migrate, loops, best, replan, rows}

-- decimal digits of a number from 1 to the greatest
pub record IsNumberTo (greatest : ℕ) (word : Word) (n : ℕ) : Type 0 where
  pub numeral : IsNumeral 10 word
  pub value : digits_value 10 word ≡ n
  pub least : 1 ≤ n
  pub most : n ≤ greatest

-- the option that limits a quantity
abbrev pub option_word : Quantity → Word
option_word Memo = codes "--memo"
option_word Rounds = codes "--rounds"
option_word Goals = codes "--goals"

abbrev pub greatest : Quantity → ℕ
greatest Memo = 400000
greatest Rounds = 256
greatest Goals = 400000

-- the limit where no option is given
abbrev pub default : Quantity → ℕ
default Memo = 20000
default Rounds = 64
default Goals = 100000

-- what one option sets
pub data Setting : Type 0 where
  limit : Quantity → ℕ → Setting
  certificate : Setting

-- the words of an option: a limit has its number in the next word, or behind `=`
pub data Spells : List Word → Setting → Type 0 where
  apart : {q : Quantity} {number : Word} {n : ℕ} → IsNumberTo (greatest q) number n
      → Spells (option_word q ∷ number ∷ []) (limit q n)
  joined : {q : Quantity} {number : Word} {n : ℕ} → IsNumberTo (greatest q) number n
      → Spells ((option_word q ++ 61 ∷ number) ∷ []) (limit q n)
  flag : Spells (codes "--certificate" ∷ []) certificate

-- a word that begins with `-`, and is not `-` alone
abbrev pub is_option : Word → Bool
is_option [] = false
is_option (b ∷ []) = false
is_option (b ∷ c ∷ cs) = b == 45

-- words behind a command's name, their file words, and what their options set, each in order: a
-- word that is no option word is a file word, and behind `--` every word is
pub data Holds : List Word → List Word → List Setting → Type 0 where
  nothing : Holds [] [] []
  file : {word : Word} {words files : List Word} {settings : List Setting}
      → is_option word ≡ false → Holds words files settings
      → Holds (word ∷ words) (word ∷ files) settings
  option : {front words files : List Word} {setting : Setting} {settings : List Setting}
      → Spells front setting → Holds words files settings
      → Holds (front ++ words) files (setting ∷ settings)
  only_files : {words : List Word} → Holds (codes "--" ∷ words) words []

-- the words are the command's name, and these file words and options
pub record Says (words : List Word) (name : Word) (files : List Word)
    (settings : List Setting) : Type 0 where
  pub behind : List Word
  pub listed : words ≡ name ∷ behind
  pub holds : Holds behind files settings

abbrev pub same_quantity : Quantity → Quantity → Bool
same_quantity Memo Memo = true
same_quantity Rounds Rounds = true
same_quantity Goals Goals = true
same_quantity _ _ = false

-- the numbers that these settings give to a quantity
abbrev pub numbers : Quantity → List Setting → List ℕ
numbers q [] = []
numbers q (certificate ∷ settings) = numbers q settings
numbers q (limit p n ∷ settings) =
    if same_quantity q p then n ∷ numbers q settings else numbers q settings

-- how often a certificate is asked for
abbrev pub flags : List Setting → ℕ
flags [] = 0
flags (certificate ∷ settings) = suc (flags settings)
flags (limit p n ∷ settings) = flags settings

-- the one number that is given, or where none is, the default
abbrev pub IsGiven : ℕ → List ℕ → ℕ → Type 0
IsGiven default [] n = n ≡ default
IsGiven default (m ∷ []) n = n ≡ m
IsGiven default (m ∷ k ∷ ns) n = ⊥

-- each option is given at most once; these are the limits, and whether a certificate is asked for
pub record Sets (settings : List Setting) (limits : Limits) (flagged : Bool) : Type 0 where
  pub memo : IsGiven (default Memo) (numbers Memo settings) limits.memo
  pub rounds : IsGiven (default Rounds) (numbers Rounds settings) limits.rounds
  pub goals : IsGiven (default Goals) (numbers Goals settings) limits.goals
  pub certificate : flags settings ≡ (if flagged then 1 else 0)

-- the command's name with these file words, and options that set these limits, and ask for a
-- certificate or not
abbrev pub SaysWith : List Word → Word → List Word → Limits → Bool → Type 0
SaysWith words name files limits flagged =
    (settings : List Setting) × Says words name files settings × Sets settings limits flagged

abbrev pub three : Names → List Word
three names = names.rules ∷ names.catalog ∷ names.query ∷ []

abbrev pub three_and : Names → Word → List Word
three_and names word = names.rules ∷ names.catalog ∷ names.query ∷ word ∷ []

-- the words mean this command
abbrev pub Means : List Word → Command → Type 0
Means words (plan names limits) = SaysWith words (codes "plan") (three names) limits false
Means words (certify names limits) = SaysWith words (codes "certify") (three names) limits false
Means words (check names proof) = Says words (codes "check") (three_and names proof) []
Means words (p2v rules) = Says words (codes "p2v") (rules ∷ []) []
Means words (trial n) =
    (number : Word) × Says words (codes "trial") (number ∷ []) [] × IsNumberTo 8 number n
Means words (migrate proof) = Says words (codes "migrate") (proof ∷ []) []
Means words (loops names limits flagged) = SaysWith words (codes "loops") (three names) limits flagged
Means words (best n names limits) =
    (number : Word) × SaysWith words (codes "best") (number ∷ three names) limits false
    × IsNumberTo 16 number n
Means words (replan names edits limits) =
    SaysWith words (codes "replan") (three_and names edits) limits false
Means words (rows tables query) = Says words (codes "rows") (tables ∷ query ∷ []) []
