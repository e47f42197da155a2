-- What becomes of one expression in a pass.
use Rattle.std.proofs.Common.{◌≡◌, ℕ, ◌<◌, Bool, true, false, List, length, Option, Some, None, slice_get, slice_set, ap, sym, ◌∙◌, subst, arith, inr}
use Rattle.derivation.specs.declared.reason.Line.{Line}
use Rattle.derivation.specs.declared.terms.Term.{Term}
use Rattle.memo.specs.declared.expr.Expr.{Expr}
use Rattle.memo.specs.declared.expr.Known.{Known}
use Rattle.memo.specs.declared.expr.Join.{Join}
use Rattle.memo.specs.Forest.{IsForest}
use Rattle.memo.specs.Index.{IsEntry, Enters}
use Rattle.memo.specs.Kept.{Indexes}
use Rattle.memo.specs.Rebuild.{IsKeyOf, renamed, AreTwins, IsNoted, IsReindexed}
use Rattle.memo.proofs.UnionLaws.{within, set_same, set_other, length_set}
use Rattle.memo.proofs.RebuildLaws.{forest_renamed}

some_is : {A : Type 0} (a b : A) → Some a ≡ Some b → a ≡ b
some_is a b e = cc

-- the expression is renamed in its place
abbrev pub Renames : {L : Type 0} → List (Expr L) → List (Expr L) → ℕ → List ℕ → Bool → Type 0
Renames {L} old new i ins b = (e : Expr L) × (slice_get old i ≡ Some e) × (new ≡ slice_set old i (renamed e ins b))

module _ {L : Type 0} (old new : List (Expr L)) (i : ℕ) (key : Term L) (ins : List ℕ) (b : Bool) (is_key : IsKeyOf old i key) (renames : Renames old new i ins b) (is_ins : ins ≡ key.inputs) where
  new_is : new ≡ slice_set old i (renamed is_key.0 key.inputs b)
  new_is =
      let same : renames.0 ≡ is_key.0 = some_is renames.0 is_key.0 (sym renames.1 ∙ is_key.1) in
      renames.2 ∙ (λ j. slice_set old i (renamed (same j) (is_ins j) b))

  pub forest_keyed : (terms : List (Term L)) (lines : List Line) (known : List (Option Known)) → IsForest terms lines old known → IsForest terms lines new known
  forest_keyed terms lines known f = forest_renamed terms lines old new known i is_key.0 key.inputs b is_key.1 new_is is_key.3 f

  pub renamed_long : length new ≡ length old
  renamed_long = ap (λ w. length w) new_is ∙ length_set old i (renamed is_key.0 key.inputs b)

  at_i : slice_get new i ≡ Some (renamed is_key.0 key.inputs b)
  at_i = ap (λ w. slice_get w i) new_is ∙ set_same old i is_key.0 (renamed is_key.0 key.inputs b) is_key.1

  module _ (entries : List (Term L × ℕ)) (f : ℕ) (indexed : Indexes entries old i) (entry : IsEntry entries key f) where
    pub entry_low : (f < length new) × (i < length new)
    entry_low = let (low, (x, at_x, live, key_is)) = indexed.1 key f entry in (subst (λ n. f < n) (sym renamed_long) (within old f x at_x), subst (λ n. i < n) (sym renamed_long) (within old i is_key.0 is_key.1))

    pub twins : AreTwins new f i
    twins =
        let (low, (x, at_x, live, key_is)) = indexed.1 key f entry in
        let at_f : slice_get new f ≡ Some x = ap (λ w. slice_get w f) new_is ∙ set_other old i f (renamed is_key.0 key.inputs b) (λ s. let e : ⊥ = omega (arith, s, low) in e) ∙ at_x in
        (x, renamed is_key.0 key.inputs b, at_f, at_i, sym (ap (λ (k : Term L). k.label) key_is) ∙ is_key.2, sym (ap (λ (k : Term L). k.inputs) key_is))

  module _ (lines : List Line) (entries entries' : List (Term L × ℕ)) (joins joins' : List Join) (live : is_key.0.live ≡ true) where
    key_again : IsKeyOf old i key
    key_again = is_key

    pub reindexed_kept : b ≡ true → Enters entries entries' key i None → joins' ≡ joins → IsReindexed lines old new entries entries' joins joins' i
    reindexed_kept is_b enters is_j = (is_key.0, is_key.1, inr (live, (key, None, is_key, enters, (new_is ∙ ap (λ c. slice_set old i (renamed is_key.0 key.inputs c)) is_b, is_j))))

    pub reindexed_gone : b ≡ false → (f : ℕ) → Enters entries entries' key i (Some f) → IsNoted lines new joins joins' f i → IsReindexed lines old new entries entries' joins joins' i
    reindexed_gone is_b f enters noted = (is_key.0, is_key.1, inr (live, (key, Some f, is_key, enters, (new_is ∙ ap (λ c. slice_set old i (renamed is_key.0 key.inputs c)) is_b, noted))))

-- the expression that a key is of is there
pub key_live : {L : Type 0} (old : List (Expr L)) (i : ℕ) (key : Term L) (e : Expr L) (is_key : IsKeyOf old i key) → slice_get old i ≡ Some e → e.live ≡ true → is_key.0.live ≡ true
key_live old i key e is_key at live = ap (λ x. x.live) (some_is is_key.0 e (sym is_key.1 ∙ at)) ∙ live
