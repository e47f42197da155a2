-- Small values, and the texts of values and tokens.
use Rattle.std.proofs.Common.{◌≡◌, ◌+◌, true, false, [], ◌∷◌, refl}
use Rattle.std.specs.Fmt.{digits}
use Rattle.std.specs.Prelude.{codes}
use Rattle.pr_value.specs.Capped.{cap}
use Rattle.pr_value.specs.Symbols.{dash}
use Rattle.pr_value.specs.TokenTexts.{token_text}
use Rattle.pr_value.specs.Values.{default_of, has_kind, is_capped, is_default, same_value, number_in, members_in, value_text}
use Rattle.pr_value.specs.declared.kind.Kind.TheVariants as kind
use Rattle.pr_value.specs.declared.token.Mark.TheVariants as mark
use Rattle.pr_value.specs.declared.token.Token.TheVariants as token
use Rattle.pr_value.specs.declared.value.Value.TheVariants as value

text-num : value_text (value.Num 120) ≡ codes "120"
unfolding digits
text-num = refl

text-truth : value_text (value.Truth false) ≡ codes "false"
text-truth = refl

text-name : value_text (value.Sym (codes "emp")) ≡ codes "'emp"
text-name = refl

text-dash : value_text (value.Sym dash) ≡ codes "'-"
text-dash = refl

text-set : value_text (value.Set (codes "a" ∷ codes "b" ∷ [])) ≡ codes "{'a, 'b}"
text-set = refl

text-list : value_text (value.List (codes "b" ∷ codes "a" ∷ codes "b" ∷ [])) ≡ codes "['b, 'a, 'b]"
text-list = refl

text-empty_set : value_text (value.Set []) ≡ codes "{}"
text-empty_set = refl

text-empty_list : value_text (value.List []) ≡ codes "[]"
text-empty_list = refl

same-kinds : same_value (value.Set []) (value.List []) ≡ false
same-kinds = refl

number-at_cap : has_kind kind.Num (value.Num cap) ≡ true
number-at_cap = refl

number-past_cap : has_kind kind.Num (value.Num (cap + 1)) ≡ false
number-past_cap = refl

cost-past_cap : has_kind kind.Cost (value.Num (cap + 1)) ≡ false
cost-past_cap = refl

number-other_kind : has_kind kind.Truth (value.Num 0) ≡ false
number-other_kind = refl

list-set_kind : has_kind kind.Set (value.List []) ≡ false
list-set_kind = refl

capped-past : is_capped (value.Num (cap + 1)) ≡ false
capped-past = refl

default-one : is_default (value.Num 1) ≡ false
default-one = refl

default-true : is_default (value.Truth true) ≡ false
default-true = refl

default-dash : is_default (value.Sym dash) ≡ true
default-dash = refl

default-name : is_default (value.Sym (codes "emp")) ≡ false
default-name = refl

default-empty : is_default (value.List []) ≡ true
default-empty = refl

default-member : is_default (value.Set (codes "a" ∷ [])) ≡ false
default-member = refl

default-cost : has_kind kind.Cost (default_of kind.Cost) ≡ true
default-cost = refl

number-default : number_in (default_of kind.Num) ≡ 0
number-default = refl

members-set : members_in (value.Set (codes "a" ∷ [])) ≡ codes "a" ∷ []
members-set = refl

token-name : token_text (token.Name (codes "emp")) ≡ codes "emp"
token-name = refl

token-number : token_text (token.Number 0) ≡ codes "0"
unfolding digits
token-number = refl

token-quoted : token_text (token.Quoted dash) ≡ codes "'-"
token-quoted = refl

token-mark : token_text (token.Mark mark.Arrow) ≡ codes "=>"
token-mark = refl
