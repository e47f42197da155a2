-- Alternatives of the same form cost the same.
use Rattle.std.specs.Prelude.{◌≡◌, ℕ, ◌&&◌, ◌==◌, min, Bool, true, false, length, Option, Some, None, refl}
use Rattle.std.proofs.Common.{ap, ◌∙◌}
use Rattle.std.specs.Cmp.{unsigned_Decides}
use Rattle.pr_value.specs.Capped.{cap}
use Rattle.replan.specs.Alike.{AreAlike}
use Rattle.prairie_tests.specs.declared.ways.Kind.{Kind}
use Rattle.prairie_tests.specs.declared.ways.Kind.TheVariants.{Sum, Least, Product}
use Rattle.prairie_tests.specs.declared.ways.Way.{Way}
use Rattle.prairie_tests.specs.Ways.{joined, inputs_of, as_alternative}
use Rattle.prairie_tests.specs.Forms.{same_kind, same_ways}

kinds_same : (a b : Kind) → same_kind a b ≡ true → a ≡ b
kinds_same Sum Sum e = refl
kinds_same Sum Least e = cc
kinds_same Sum Product e = cc
kinds_same Least Sum e = cc
kinds_same Least Least e = refl
kinds_same Least Product e = cc
kinds_same Product Sum e = cc
kinds_same Product Least e = cc
kinds_same Product Product e = refl

both : (a b : Bool) → (a && b) ≡ true → (a ≡ true) × (b ≡ true)
both true b e = (refl, e)
both false b e = cc

same_number : (a b : ℕ) → (a == b) ≡ true → a ≡ b
same_number a b e = (unsigned_Decides a b).0 e

pub same_form_of : (n g : ℕ) (a : Option Way) (m h : ℕ) (b : Option Way) → same_ways n g a m h b ≡ true → AreAlike (as_alternative n g a) (as_alternative m h b)
same_form_of n g None m h b e = cc
same_form_of n g (Some a) m h None e = cc
same_form_of n g (Some a) m h (Some b) e =
    let p = both (same_kind a.kind b.kind) ((min a.from cap == min b.from cap) && (length (inputs_of n g a) == length (inputs_of m h b))) e in
    let q = both (min a.from cap == min b.from cap) (length (inputs_of n g a) == length (inputs_of m h b)) p.1 in
    record {
      inputs = same_number (length (inputs_of n g a)) (length (inputs_of m h b)) q.1;
      cost = λ costs long low. ap (λ k. joined k (min a.from cap) costs) (kinds_same a.kind b.kind p.0) ∙ ap (λ f. joined b.kind f costs) (same_number (min a.from cap) (min b.from cap) q.0);
    }
