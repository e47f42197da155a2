-- Values of a kind, and defaults.
use Rattle.std.proofs.Common.{◌≡◌, true, refl}
use Rattle.std.proofs.lemmas.Bool.{false≢true}
use Rattle.pr_value.specs.Values.{default_of, has_kind, is_capped, is_default}
use Rattle.pr_value.specs.declared.kind.Kind.{Kind}
use Rattle.pr_value.specs.declared.kind.Kind.TheVariants as kind
use Rattle.pr_value.specs.declared.value.Value.{Value}
use Rattle.pr_value.specs.declared.value.Value.TheVariants as value

pub has_kind-default_of : (k : Kind) → has_kind k (default_of k) ≡ true
has_kind-default_of kind.Num = refl
has_kind-default_of kind.Truth = refl
has_kind-default_of kind.Symbol = refl
has_kind-default_of kind.Set = refl
has_kind-default_of kind.List = refl
has_kind-default_of kind.Cost = refl

pub is_default-default_of : (k : Kind) → is_default (default_of k) ≡ true
is_default-default_of kind.Num = refl
is_default-default_of kind.Truth = refl
is_default-default_of kind.Symbol = refl
is_default-default_of kind.Set = refl
is_default-default_of kind.List = refl
is_default-default_of kind.Cost = refl

-- a number of some kind is at most the cap
pub is_capped-has_kind : (k : Kind) (v : Value) → has_kind k v ≡ true → is_capped v ≡ true
is_capped-has_kind kind.Num (value.Num n) is = is
is_capped-has_kind kind.Cost (value.Num n) is = is
is_capped-has_kind kind.Truth (value.Num n) is = absurd (false≢true is)
is_capped-has_kind kind.Symbol (value.Num n) is = absurd (false≢true is)
is_capped-has_kind kind.Set (value.Num n) is = absurd (false≢true is)
is_capped-has_kind kind.List (value.Num n) is = absurd (false≢true is)
is_capped-has_kind k (value.Truth b) is = refl
is_capped-has_kind k (value.Sym s) is = refl
is_capped-has_kind k (value.Set ss) is = refl
is_capped-has_kind k (value.List ss) is = refl
