-- The first part that lacks its form.
use Rattle.std.proofs.Common.{◌≡◌, true, Option, Some, None, refl, ap, sym, ◌∙◌, subst}
use Rattle.std.specs.Prelude.{codes, is_some, option_and_then}
use Rattle.serde_json.specs.Data.{Data, null, boolean, number, string, array, object}
use Rattle.serde_json.specs.Find.{as_object}
use Rattle.bound_certificate.specs.Laws.{LacksNothing}
use Rattle.bound_certificate.specs.Reading.{Fails, FailsPart, SaysHead}
use Rattle.bound_certificate.specs.Shape.{Says, bad_behind, bad_unless, chosen_in, classes_in, first_bad, form_if, form_in, format_in, goals_in, lines_in, list_in, member_in, node_in, nodes_in, plan_in, root_in, verdict_in}
use Rattle.bound_certificate.specs.declared.certificate.Certificate.{Certificate}
use Rattle.bound_certificate.specs.declared.cost.CertCost.{CertCost}
use Rattle.bound_certificate.specs.declared.error.CertError.{CertError}
use Rattle.bound_certificate.specs.declared.error.CertError.TheVariants as error
use Rattle.bound_certificate.specs.declared.error.CertPart.{CertPart}
use Rattle.bound_certificate.specs.declared.error.CertPart.TheVariants as part
use Rattle.bound_certificate.specs.declared.form.Form.{Form}

-- this part is bad
pub bad_here : {X : Type 0} (p : CertPart) (o : Option X) (rest : Option CertPart) (e : CertError) → FailsPart p o e → Fails (bad_unless (is_some o) p rest) e
bad_here p o rest (error.BadShape q) fails = ap (λ r. bad_unless (is_some r) p rest) fails.0 ∙ ap (λ r. Some r) (sym fails.1)
bad_here p o rest error.NotJson fails = fails
bad_here p o rest error.Memory fails = tt

-- this part has its form
pub good_here : {X : Type 0} (p : CertPart) (o : Option X) (x : X) (rest : Option CertPart) → o ≡ Some x → bad_unless (is_some o) p rest ≡ rest
good_here p o x rest is = ap (λ r. bad_unless (is_some r) p rest) is

pub bad_later : {X : Type 0} (p : CertPart) (o : Option X) (x : X) (rest : Option CertPart) (e : CertError) → o ≡ Some x → Fails rest e → Fails (bad_unless (is_some o) p rest) e
bad_later p o x rest e is fails = subst (λ r. Fails r e) (sym (good_here p o x rest is)) fails

good_test : {X : Type 0} (p : CertPart) (o : Option X) (rest : Option CertPart) → is_some o ≡ true → bad_unless (is_some o) p rest ≡ rest
good_test p o rest is = ap (λ b. bad_unless b p rest) is

-- the parts up to the names have their form
pub past_head : (v : CertCost) (f : Form) (d : Data) → SaysHead v f d → first_bad d ≡ bad_behind d
past_head v f d head =
    good_test part.Top (as_object d) _ head.top
    ∙ good_test part.Format (format_in d) _ head.format
    ∙ good_here part.Verdict (verdict_in d) v _ head.verdict
    ∙ good_here part.Names (form_in d) f _ head.names

pub bad_format : (d : Data) (e : CertError) → is_some (as_object d) ≡ true → FailsPart part.Format (format_in d) e → Fails (first_bad d) e
bad_format d e top fails = subst (λ r. Fails r e) (sym (good_test part.Top (as_object d) _ top)) (bad_here part.Format (format_in d) _ e fails)

pub bad_verdict : (d : Data) (e : CertError) → is_some (as_object d) ≡ true → is_some (format_in d) ≡ true → FailsPart part.Verdict (verdict_in d) e → Fails (first_bad d) e
bad_verdict d e top format fails =
    subst (λ r. Fails r e) (sym (good_test part.Top (as_object d) _ top ∙ good_test part.Format (format_in d) _ format)) (bad_here part.Verdict (verdict_in d) _ e fails)

pub bad_names : (d : Data) (e : CertError) (v : CertCost) → is_some (as_object d) ≡ true → is_some (format_in d) ≡ true → verdict_in d ≡ Some v → FailsPart part.Names (form_in d) e → Fails (first_bad d) e
bad_names d e v top format verdict fails =
    subst (λ r. Fails r e) (sym (good_test part.Top (as_object d) _ top ∙ good_test part.Format (format_in d) _ format ∙ good_here part.Verdict (verdict_in d) v _ verdict))
    (bad_here part.Names (form_in d) _ e fails)

-- ---- what says a certificate lacks no part

some_before : {X Y : Type 0} (reads : X → Option Y) (o : Option X) (y : Y) → option_and_then reads o ≡ Some y → (x : X) × (o ≡ Some x)
some_before reads None y is = cc
some_before reads (Some x) y is = (x, refl)

is_some-from : {X : Type 0} (o : Option X) (x : X) → o ≡ Some x → is_some o ≡ true
is_some-from o x is = ap is_some is

object_from_verdict : (d : Data) (v : CertCost) → verdict_in d ≡ Some v → is_some (as_object d) ≡ true
object_from_verdict (object ms) v is = refl
object_from_verdict null v is = cc
object_from_verdict (boolean b) v is = cc
object_from_verdict (number n) v is = cc
object_from_verdict (string s) v is = cc
object_from_verdict (array ds) v is = cc

behind_whole : (c : Certificate) (d : Data) → Says c d → bad_behind d ≡ None
behind_whole c d says =
    good_here part.Nodes (nodes_in d) c.nodes _ says.nodes
    ∙ good_here part.Lines (lines_in d) c.lines _ says.lines
    ∙ good_here part.Line (chosen_in d) c.line _ says.line
    ∙ good_here part.Plan (plan_in d) c.plan _ says.plan
    ∙ good_here part.Classes (classes_in d) c.classes _ says.classes
    ∙ good_here part.Root (root_in d) c.root _ says.root
    ∙ good_here part.Goals (goals_in d) c.goals None says.goals

pub lacks_nothing : LacksNothing
lacks_nothing c d says =
    let names = some_before (λ f. member_in (list_in (node_in f)) (codes "nodes") d) (form_in d) c.nodes says.nodes in
    let format = some_before (λ second. form_if second d) (format_in d) names.0 names.1 in
    past_head c.verdict names.0 d (record {
      top = object_from_verdict d c.verdict says.verdict;
      format = is_some-from (format_in d) format.0 format.1;
      verdict = says.verdict;
      names = names.1;
    })
    ∙ behind_whole c d says
