-- What is told where a fetch finds too much.
use Rattle.std.proofs.Common.{◌≡◌, ℕ, ◌<◌, List, length, replicate, Option, Some, None, Result, Err, refl, ap, ◌∙◌, arith, inl}
use Rattle.std.specs.Prelude.{◌⊎◌, ◌≢◌}
use Rattle.std.proofs.lemmas.List.{length-replicate}
use Rattle.pr_outside.specs.Files.{Files, IsTooLong}
use Rattle.pr_outside.specs.declared.shelf.FetchError.{FetchError}
use Rattle.pr_outside.specs.declared.shelf.FetchError.TheVariants as fetch
use Rattle.prairie_top.specs.Run.{Told}
use Rattle.prairie_top.specs.Sources.{Within}
use Rattle.prairie_top.specs.declared.stage.Refusal.{Refusal}
use Rattle.prairie_top.specs.declared.stage.Refusal.TheVariants.{TooLong}

-- what is past a limit, or refused
abbrev pub IsPast : ℕ → (Refusal → List ℕ → Type 0) → Refusal → List ℕ → Type 0
IsPast most Refuses refusal bytes = ((refusal ≡ TooLong) × (most < length bytes)) ⊎ Within most (Refuses refusal) bytes

pub told_long : (held : Option Files) (name : List ℕ) (most taken : ℕ) (Refuses : Refusal → List ℕ → Type 0) → IsTooLong held name most taken → Told held name (IsPast most Refuses TooLong)
told_long None name most taken Refuses long =
    let bytes : List ℕ = replicate taken 0 in
    let many : length bytes ≡ taken = length-replicate taken 0 in
    (bytes, inl (refl, omega (arith, long, many)))
told_long (Some files) name most taken Refuses long = (long.0, long.1, inl (refl, long.2))

-- a fetch that found too much
pub is_long : {X : Type 0} (r : Result X FetchError) (e : FetchError) → r ≡ Err e → e ≡ fetch.TooLong → r ≡ Err fetch.TooLong
is_long r e is same = is ∙ ap (λ (f : FetchError). Err f) same

-- did not fail
pub long_not_failed : {X : Type 0} (r : Result X FetchError) → r ≡ Err fetch.TooLong → r ≢ Err fetch.Failed
long_not_failed r is e = cc
