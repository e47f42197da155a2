-- Steps over the same rules and the same catalog are the same.
use Rattle.std.proofs.Common.{◌≡◌, List, map, None, subst}
use Rattle.std.proofs.Props.{props}
use Rattle.catalog.specs.Contents.{Catalog}
use Rattle.descriptor_types.specs.Descriptors.{Layout}
use Rattle.enforcer_find.specs.Enforcers.{has_null, operator_rules}
use Rattle.enforcer_find.specs.declared.enforcers.OperatorRules.{OperatorRules}
use Rattle.property_classes.specs.Classes.{classes_of}
use Rattle.rule_ast.specs.Roles.{is_enforcer}
use Rattle.rule_ast.specs.Seen.{seen_irule}
use Rattle.rule_ast.specs.declared.roles.PropertyClass.{PropertyClass}
use Rattle.rule_ast.specs.SeenRules.{seen_rules}
use Rattle.rule_ast.specs.declared.rule_set.Rules as code
use Rattle.rule_types.specs.Conditions.{refused_by}
use Rattle.tree_terms.specs.declared.tree_steps.TreeSteps.{TreeSteps}

-- what the steps say of their parts
abbrev Accepts : code.Rules → Type 0
Accepts rs = refused_by (seen_rules rs) ≡ None

abbrev LaidOut : code.Rules → Layout → Type 0
LaidOut rs l = l ≡ rs.properties

abbrev Classed : code.Rules → List PropertyClass → Type 0
Classed rs k = k ≡ classes_of (seen_rules rs)

abbrev Enforced : code.Rules → List OperatorRules → Type 0
Enforced rs es = es ≡ operator_rules (seen_rules rs)

abbrev Found : code.Rules → List OperatorRules → Type 0
Found rs es = map has_null es ≡ map (λ o. is_enforcer (map seen_irule rs.irules) o.name) rs.operators

accepted_once : (rs : code.Rules) → IsProp (Accepts rs)
accepted_once rs = Prim.hlevel props

laid_out_once : (rs : code.Rules) (l : Layout) → IsProp (LaidOut rs l)
laid_out_once rs l = Prim.hlevel props

classed_once : (rs : code.Rules) (k : List PropertyClass) → IsProp (Classed rs k)
classed_once rs k = Prim.hlevel props

enforced_once : (rs : code.Rules) (es : List OperatorRules) → IsProp (Enforced rs es)
enforced_once rs es = Prim.hlevel props

found_once : (rs : code.Rules) (es : List OperatorRules) → IsProp (Found rs es)
found_once rs es = Prim.hlevel props

-- the parts of steps
record Parts : Type 0 where
  rules : code.Rules
  layout : Layout
  classes : List PropertyClass
  enforcers : List OperatorRules
  catalog : Catalog

abbrev made : (p : Parts) → Accepts p.rules → LaidOut p.rules p.layout → Classed p.rules p.classes → Enforced p.rules p.enforcers → Found p.rules p.enforcers → TreeSteps
made p f g h e n = record {
  rules = p.rules;
  layout = p.layout;
  classes = p.classes;
  enforcers = p.enforcers;
  catalog = p.catalog;
  accepted = f;
  laid_out = g;
  classed = h;
  enforced = e;
  found = n;
}

abbrev Same : Parts → Parts → Type 0
Same p q =
    (f : Accepts p.rules) (g : LaidOut p.rules p.layout) (h : Classed p.rules p.classes) (e : Enforced p.rules p.enforcers) (n : Found p.rules p.enforcers) (f' : Accepts q.rules) (g' : LaidOut q.rules q.layout) (h' : Classed q.rules q.classes)
    (e' : Enforced q.rules q.enforcers) (n' : Found q.rules q.enforcers) → made p f g h e n ≡ made q f' g' h' e' n'

same_facts : (p : Parts) → Same p p
same_facts p f g h e n f' g' h' e' n' =
    λ i. made p (accepted_once p.rules f f' i) (laid_out_once p.rules p.layout g g' i) (classed_once p.rules p.classes h h' i) (enforced_once p.rules p.enforcers e e' i) (found_once p.rules p.enforcers n n' i)

abbrev parts : TreeSteps → Parts
parts s = record { rules = s.rules; layout = s.layout; classes = s.classes; enforcers = s.enforcers; catalog = s.catalog }

pub same_steps : (a b : TreeSteps) → a.rules ≡ b.rules → a.layout ≡ b.layout → a.classes ≡ b.classes → a.enforcers ≡ b.enforcers → a.catalog ≡ b.catalog → a ≡ b
same_steps a b p q x y z =
    let same : parts a ≡ parts b = λ i. record { rules = p i; layout = q i; classes = x i; enforcers = y i; catalog = z i } in
    subst (Same (parts a)) same (same_facts (parts a)) a.accepted a.laid_out a.classed a.enforced a.found b.accepted b.laid_out b.classed b.enforced b.found
