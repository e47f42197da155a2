-- The commands of the program.
use Rattle.std.specs.Prelude.{ℕ, Bool, List}
use Rattle.prairie_words.specs.declared.limits.Limits.{Limits}

-- a word, and the name of a text, is seen as its bytes
abbrev pub Word : Type 0
Word = List ℕ

-- the names of the three texts
pub record Names : Type 0 where
  pub rules : Word
  pub catalog : Word
  pub query : Word

-- what words may ask for: a best plan; its certificate; whether a certificate certifies; the
-- property classes and the Volcano rules; the summary of a generated query; a certificate in its
-- last format; a best plan where equal trees contain each other, or its certificate; the cheapest
-- plans, so many; a best plan after each of a list of edits; a best plan of a relational query, and
-- its rows
pub data Command : Type 0 where
  plan : Names → Limits → Command
  certify : Names → Limits → Command
  check : Names → Word → Command
  p2v : Word → Command
  trial : ℕ → Command
  migrate : Word → Command
  loops : Names → Limits → Bool → Command
  best : ℕ → Names → Limits → Command
  replan : Names → Word → Limits → Command
  rows : Word → Word → Command
