-- What a text reads as, from what its tokens are.
use Rattle.std.proofs.Common.{◌≡◌, ℕ, Bool, List, [], ◌∷◌, length, map, arith, inl, inr, refl, ap, ◌∙◌, subst, sym}
use Rattle.std.specs.Cmp.{unsigned_Decides}
use Rattle.std.specs.Prelude.{◌==◌, Decides, Result, Ok, Err}
use Rattle.pr_value.specs.Placed.{Placed, tokens_in}
use Rattle.prairie_top.specs.Reading.{HasNoTokens, IsSyntax, Grammar, Reads, IsRefusedText, no_tokens, unread, refused}
use Rattle.prairie_top.specs.Stages.{IsReading, ArePlaced, IsOfTokens}
use Rattle.prairie_top.specs.declared.stage.TextError.{TextError}
use Rattle.prairie_top.specs.declared.stage.TextError.TheVariants as text_error

module _ {V X : Type 0} (g : Grammar V) (view : X → V) (bytes : List ℕ) where
  -- bytes with tokens read as what their tokens are
  pub read_tokens : (ts : Placed) (r : Result X TextError) → ArePlaced ts bytes → IsOfTokens g view ts r → IsReading (λ x. Reads g (view x)) (IsRefusedText g) bytes r
  read_tokens ts (Ok x) are is = (tokens_in ts, (ts.placed, are.0, refl), is.0, is.1)
  read_tokens ts (Err text_error.Memory) are is = is
  read_tokens ts (Err (text_error.Refused refusal)) are is = elim is [
    | inl none ↦ unread ts.placed are.0 (subst (λ n. IsSyntax ts.placed n refusal) are.1 none.0) none.1
    | inr (v, spells, refuses) ↦ refused v (tokens_in ts) (ts.placed, are.0, refl) spells refuses
  ]

  -- bytes without tokens are refused for that
  pub read_nothing : {Y : Type 0} (Has : Y → List ℕ → Type 0) (e : TextError) → IsReading Has HasNoTokens bytes (Err e) → IsReading (λ x. Reads g (view x)) (IsRefusedText g) bytes (Err e)
  read_nothing Has text_error.Memory is = is
  read_nothing Has (text_error.Refused refusal) is = no_tokens is

-- whether a list has no item, from how many its values are
pub map-is_empty : {A B : Type 0} (f : A → B) (xs ys : List A) (b : Bool) → xs ≡ ys → b ≡ (length xs == 0) → Decides b (map f ys ≡ [])
map-is_empty f xs [] b same is = (λ e. refl, λ e. is ∙ ap (λ zs. length zs == 0) same)
map-is_empty f xs (y ∷ ys) b same is =
    (λ e. let none = (unsigned_Decides (length (y ∷ ys)) 0).0 (sym (is ∙ ap (λ zs. length zs == 0) same) ∙ e) in absurd (omega (arith, none)), λ e. cc)
