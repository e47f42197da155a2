-- Which offsets are places.
use Rattle.std.proofs.Common.{◌≡◌, ℕ, List, Some, map, inl, inr}
use Rattle.std.specs.Prelude.{Contains, slice_get}
use Rattle.std.proofs.lemmas.Option.{slice_get_within, get_or_from_slice_get}
use Rattle.pr_value.specs.declared.token.Token.{Token}
use Rattle.rule_syntax.specs.Places.{IsPlace}

contained : {A : Type 0} (xs : List A) (k : ℕ) (x : A) → slice_get xs k ≡ Some x → Contains xs x
contained xs k x e = (k, slice_get_within xs k x e, get_or_from_slice_get xs k x x e)

pub token_place : (placed : List (Token × ℕ)) (end k at : ℕ) → slice_get (map (λ t. t.1) placed) k ≡ Some at → IsPlace placed end at
token_place placed end k at e = inl (contained (map (λ t. t.1) placed) k at e)

pub end_place : (placed : List (Token × ℕ)) (end at : ℕ) → at ≡ end → IsPlace placed end at
end_place placed end at e = inr e
