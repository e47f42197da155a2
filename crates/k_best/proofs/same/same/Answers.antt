use Rattle.std.proofs.Common.{map, sym, ap, ◌∙◌, arith}
use Rattle.k_best.specs.Lists.{label_at}
use Rattle.k_best.proofs.SameLaws.{same_shown, shown_same}
use Rattle.k_best.proofs.same.same.Goals as goal

pub returns-clause-yes : goal.returns-clause-yes
returns-clause-yes g c = λ e.
    let l = c.args.lists.now in let labels = map (label_at l.labels) in
    same_shown (g.M.Faces.face c.args.moves.now) l.solutions l.labels c.requires.labelled c.args.left.now c.args.right.now c.requires.left_inputs c.requires.right_inputs
    (omega arith) (sym c.face.ensures ∙ c.if-face.false ∙ c.face-2.ensures)
    (ap labels (sym c.as_slice.ensures) ∙ c.same_labels.ensures.yes e ∙ ap labels c.as_slice-2.ensures)

pub returns-clause-no : goal.returns-clause-no
returns-clause-no g c = λ e is.
    let l = c.args.lists.now in let labels = map (label_at l.labels) in
    c.same_labels.ensures.no e (
    ap labels c.as_slice.ensures
    ∙ shown_same (g.M.Faces.face c.args.moves.now) l.solutions l.labels c.requires.labelled c.args.left.now c.args.right.now c.requires.left_inputs c.requires.right_inputs is
    ∙ ap labels (sym c.as_slice-2.ensures))
