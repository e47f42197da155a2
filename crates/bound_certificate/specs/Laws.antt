-- What follows from the definitions.
use Rattle.std.specs.Prelude.{◌≡◌, ℕ, ℤ, Float, List, None}
use Rattle.serde_json.specs.Data.{Data, negative, float, number}
use Rattle.bound_certificate.specs.Shape.{IsJson, Says, first_bad, number_in}
use Rattle.bound_certificate.specs.declared.certificate.Certificate.{Certificate}

-- the parts of two certificates are equal
pub record SameParts (b c : Certificate) : Type 0 where
  pub verdict : b.verdict ≡ c.verdict
  pub nodes : b.nodes ≡ c.nodes
  pub lines : b.lines ≡ c.lines
  pub line : b.line ≡ c.line
  pub plan : b.plan ≡ c.plan
  pub classes : b.classes ≡ c.classes
  pub root : b.root ≡ c.root
  pub goals : b.goals ≡ c.goals

-- a text is that of one certificate at most
abbrev pub OneCertificate : Type 0
OneCertificate =
    (bytes : List ℕ) (d e : Data) (b c : Certificate) → IsJson bytes d → IsJson bytes e → Says b d
    → Says c e → SameParts b c

-- a JSON value that says a certificate lacks no part
abbrev pub LacksNothing : Type 0
LacksNothing = (c : Certificate) (d : Data) → Says c d → first_bad d ≡ None

-- `-1`, `-0`, `1.0`, `1e0` and what is past 2^64 - 1 are no whole numbers
pub record OnlyWholeNumbers : Type 0 where
  pub below : (z : ℤ) → number_in (number (negative z)) ≡ None
  pub between : (x : Float) → number_in (number (float x)) ≡ None
