-- A list of another length than two is no pair.
use Rattle.std.proofs.Common.{◌≡◌, List, [], ◌∷◌, length, None, refl}
use Rattle.serde_json.specs.View.{items_view}
use Rattle.serde_json.specs.declared.value.Value.{Value as Json}
use Rattle.bound_certificate.specs.Shape.{pair_of}
use Rattle.bound_certificate.specs.declared.form.Form.{Form}

pub not_a_pair : (f : Form) (vs : List Json) → ¬ (length vs ≡ 2) → pair_of f (items_view vs) ≡ None
not_a_pair f [] other = refl
not_a_pair f (v ∷ []) other = refl
not_a_pair f (v ∷ w ∷ []) other = absurd (other refl)
not_a_pair f (v ∷ w ∷ x ∷ vs) other = refl
