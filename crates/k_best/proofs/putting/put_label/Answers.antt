use Rattle.std.proofs.Common.{◌≡◌, ℕ, List, length, ap, sym, ◌∙◌, subst, arith}
use Rattle.k_best.specs.Showings.{shown, shown_at}
use Rattle.k_best.specs.Lists.{AreLabelled, IsLabel}
use Rattle.k_best.specs.Indexes.{mark_of}
use Rattle.k_best.proofs.ListLaws.{item_in}
use Rattle.k_best.proofs.PutLaws.{labelled_more}
use Rattle.k_best.proofs.IndexLaws.{mark_is, indexed_more}
use Rattle.k_best.proofs.putting.put_label.Goals as goal

pub solution_mark-mark-requires : goal.solution_mark-mark-requires
solution_mark-mark-requires g c =
    let ss = c.args.lists.now.solutions in let s = c.index-as_slice-at.result in
    record { alternative = (c.requires.sound c.args.at s (item_in c.as_slice.result.now ss c.args.at s c.as_slice.ensures c.requires.place c.index-as_slice-at.is)).alternative }

pub label_of-label-requires-clause-mark : goal.label_of-label-requires-clause-mark
label_of-label-requires-clause-mark g c =
    let l = c.args.lists.now in let s = c.index-as_slice-at.result in
    mark_is (g.M.Choices.graph c.args.moves.now) (g.M.Faces.face c.args.moves.now) l.solutions c.requires.sound c.args.at s
    (item_in c.as_slice.result.now l.solutions c.args.at s c.as_slice.ensures c.requires.place c.index-as_slice-at.is) l.index.marks c.requires.indexed.are (omega (arith, c.requires.first, c.requires.marked))
    c.solution_mark-mark.result c.solution_mark-mark.ensures

pub returns-clause-labelled : goal.returns-clause-labelled
returns-clause-labelled g c =
    let face = g.M.Faces.face c.args.moves.now in let l = c.args.lists.now in
    subst (λ (labels : List ℕ). AreLabelled face l.solutions labels) (sym c.in_ok-push.ensures.ok)
    (labelled_more face l.solutions l.labels c.label_of-label.result c.requires.labelled
    (subst (λ (n : ℕ). IsLabel face l.solutions l.labels n c.label_of-label.result) c.requires.first c.label_of-label.ensures))

pub returns-clause-indexed : goal.returns-clause-indexed
returns-clause-indexed g c =
    let l = c.args.lists.now in let s = c.index-as_slice-at.result in let seen = shown (g.M.Faces.face c.args.moves.now) l.solutions in
    let place : c.args.at ≡ length l.index.marks = omega (arith, c.requires.first, c.requires.marked) in
    let mark : c.solution_mark-mark.result ≡ mark_of (shown_at seen c.args.at) =
    mark_is (g.M.Choices.graph c.args.moves.now) (g.M.Faces.face c.args.moves.now) l.solutions c.requires.sound c.args.at s
    (item_in c.as_slice.result.now l.solutions c.args.at s c.as_slice.ensures c.requires.place c.index-as_slice-at.is) l.index.marks c.requires.indexed.are place
    c.solution_mark-mark.result c.solution_mark-mark.ensures in
    indexed_more seen l.index c.requires.indexed c.solution_mark-mark.result (mark ∙ ap (λ (n : ℕ). mark_of (shown_at seen n)) place) c.push-2.new.self
    c.in_ok-push-2.ensures.marks c.in_ok-push-2.ensures.heads c.in_ok-push-2.ensures.before
