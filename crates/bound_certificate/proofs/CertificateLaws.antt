-- What is written of a certificate says just that certificate, and a text says one at most.
use Rattle.std.proofs.Common.{◌≡◌, ℕ, true, ◌&&◌, List, ◌++◌, Option, Some, option_map, option_and_then, refl, ap, sym, ◌∙◌, subst}
use Rattle.std.specs.Prelude.{codes}
use Rattle.std.specs.Cmp.{first_so, second_so}
use Rattle.std.specs.List.{AllByRecursion, flat_map, list_all}
use Rattle.serde_json.specs.Data.{Data}
use Rattle.pr_value.specs.Symbols.{Symbol, is_symbol}
use Rattle.pr_value.proofs.MemberLaws.{ascends-set_of}
use Rattle.bound_certificate.specs.Formed.{AreFine, cost_formed, goal_formed, line_formed, node_formed, step_formed}
use Rattle.bound_certificate.specs.Laws.{OneCertificate}
use Rattle.bound_certificate.specs.Shape.{Says, chosen_in, class_in, classes_in, form_in, goal_in, goals_in, line_in, lines_in, list_in, member_in, node_in, nodes_in, part_list, plan_in, root_in, step_in, verdict_in}
use Rattle.bound_certificate.specs.Written.{AreUsed, certificate_data, class_symbols, goal_symbols, line_symbols, names_of, node_symbols, step_symbols, symbols_of}
use Rattle.bound_certificate.specs.declared.certificate.Certificate.{Certificate}
use Rattle.bound_certificate.specs.declared.form.Form.{Form}
use Rattle.bound_certificate.specs.declared.form.Form.TheVariants as form
use Rattle.bound_certificate.proofs.AgainLaws.{all-append, classes_again, cost_again, goals_again, lines_again, names_again, nodes_again, steps_again}
use Rattle.bound_certificate.proofs.PlaceLaws.{In, all_in_set, all_of_set}

some_same : {A : Type 0} (x y : A) → Some x ≡ Some y → x ≡ y
some_same x y e = cc

pub one_certificate : OneCertificate
one_certificate bytes d e b c (utf8, one) (utf8', other) says says' =
    let same : d ≡ e = some_same d e (sym one ∙ other) in
    record {
      verdict = some_same b.verdict c.verdict (sym says.verdict ∙ ap verdict_in same ∙ says'.verdict);
      nodes = some_same b.nodes c.nodes (sym says.nodes ∙ ap nodes_in same ∙ says'.nodes);
      lines = some_same b.lines c.lines (sym says.lines ∙ ap lines_in same ∙ says'.lines);
      line = some_same b.line c.line (sym says.line ∙ ap chosen_in same ∙ says'.line);
      plan = some_same b.plan c.plan (sym says.plan ∙ ap plan_in same ∙ says'.plan);
      classes = some_same b.classes c.classes (sym says.classes ∙ ap classes_in same ∙ says'.classes);
      root = some_same b.root c.root (sym says.root ∙ ap root_in same ∙ says'.root);
      goals = some_same b.goals c.goals (sym says.goals ∙ ap goals_in same ∙ says'.goals);
    }

module _ (c : Certificate) (symbols : list_all is_symbol (names_of c) ≡ true) where
  form_again : form_in (certificate_data c) ≡ Some (form.Placed (names_of c))
  form_again = ap (option_map form.Placed) (names_again (names_of c) symbols (ascends-set_of (symbols_of c)))

  each : AllByRecursion (In (names_of c)) (symbols_of c)
  each = all_in_set (symbols_of c)

  -- as the format has it
  as_placed : {A : Type 0} (reads : Form → Data → Option A) (name : List ℕ) (xs : List A) → member_in (list_in (reads (form.Placed (names_of c)))) name (certificate_data c) ≡ Some xs → part_list reads name (certificate_data c) ≡ Some xs
  as_placed reads name xs is = ap (option_and_then (λ f. member_in (list_in (reads f)) name (certificate_data c))) form_again ∙ is

  pub says_again : AreFine c.nodes c.classes c.goals → Says c (certificate_data c)
  says_again fine =
      let P : Symbol → Type 0 = In (names_of c) in
      let nodes_of = flat_map node_symbols c.nodes in
      let lines_of = flat_map line_symbols c.lines in
      let plan_of = flat_map step_symbols c.plan in
      let classes_of = flat_map class_symbols c.classes in
      let goals_of = flat_map goal_symbols c.goals in
      let to_goals = all-append P (nodes_of ++ lines_of ++ plan_of ++ classes_of) goals_of each in
      let to_classes = all-append P (nodes_of ++ lines_of ++ plan_of) classes_of to_goals.0 in
      let to_plan = all-append P (nodes_of ++ lines_of) plan_of to_classes.0 in
      let to_lines = all-append P nodes_of lines_of to_plan.0 in
      let v = cost_formed c.verdict in
      let ns = list_all node_formed c.nodes in
      let ls = list_all line_formed c.lines in
      let ss = list_all step_formed c.plan in
      let rows = list_all (list_all node_formed) c.classes in
      let gs = list_all goal_formed c.goals in
      let but_goals = first_so (v && ns && ls && ss && rows) gs c.formed in
      let but_classes = first_so (v && ns && ls && ss) rows but_goals in
      let but_plan = first_so (v && ns && ls) ss but_classes in
      let but_lines = first_so (v && ns) ls but_plan in
      let verdict = first_so v ns but_lines in
      let nodes = second_so v ns but_lines in
      let lines = second_so (v && ns) ls but_plan in
      let plan = second_so (v && ns && ls) ss but_classes in
      let classes = second_so (v && ns && ls && ss) rows but_goals in
      let goals = second_so (v && ns && ls && ss && rows) gs c.formed in
      record {
        verdict = cost_again c.verdict verdict;
        nodes = as_placed node_in (codes "nodes") c.nodes (nodes_again (names_of c) c.nodes to_lines.0 nodes fine.nodes);
        lines = as_placed line_in (codes "lines") c.lines (lines_again (names_of c) c.lines to_lines.1 lines);
        line = refl;
        plan = as_placed step_in (codes "plan") c.plan (steps_again (names_of c) c.plan to_plan.1 plan);
        classes = as_placed class_in (codes "classes") c.classes (classes_again (names_of c) c.classes to_classes.1 classes fine.classes);
        root = refl;
        goals = as_placed goal_in (codes "goals") c.goals (goals_again (names_of c) c.goals to_goals.1 goals fine.goals);
      }

  pub used_again : AreUsed c (certificate_data c)
  used_again names are =
      let told : names_of c ≡ names = some_same (names_of c) names (sym (names_again (names_of c) symbols (ascends-set_of (symbols_of c))) ∙ are) in
      subst (AllByRecursion (In (symbols_of c))) told (all_of_set (symbols_of c))
