use Rattle.std.proofs.Common.{List, length, Option, sym, ◌∙◌, subst, arith}
use Rattle.best_plan.specs.declared.solution.Solution.{Solution}
use Rattle.best_plan.specs.Solutions.{AreSound}
use Rattle.k_best.specs.declared.lists.Span.{Span}
use Rattle.k_best.specs.Indexes.{IsIndexed}
use Rattle.k_best.specs.Showings.{shown}
use Rattle.k_best.proofs.IndexLaws.{indexed_left}
use Rattle.k_best.specs.Lists.{AreLabelled, IsDone}
use Rattle.k_best.proofs.PutLaws.{put_right_at, labelled_on, put_sound, done_set, done_kept, set_is}
use Rattle.k_best.proofs.putting.put.Goals as goal

pub put_labels-requires-clause-sound : goal.put_labels-requires-clause-sound
put_labels-requires-clause-sound g c =
    let m = c.args.moves.now in
    subst (AreSound (g.M.Choices.graph m)) (sym c.in_ok-append.ensures)
    (put_sound (g.M.Choices.graph m) (g.met.M.Choices.lawful m) (g.M.Faces.face m) c.args.most c.args.lists.now c.requires.right c.args.goal c.args.chosen c.requires.picks c.requires.done)

pub put_labels-requires-clause-labelled : goal.put_labels-requires-clause-labelled
put_labels-requires-clause-labelled g c =
    let l = c.args.lists.now in let face = g.M.Faces.face c.args.moves.now in
    subst (λ (ss : List Solution). AreLabelled face ss l.labels) (sym c.in_ok-append.ensures)
    (labelled_on face l.solutions c.args.chosen l.labels (omega (arith, c.requires.right.long)) c.requires.right.labelled)

pub put_labels-requires-clause-indexed : goal.put_labels-requires-clause-indexed
put_labels-requires-clause-indexed g c =
    let l = c.args.lists.now in let face = g.M.Faces.face c.args.moves.now in
    subst (λ (ss : List Solution). IsIndexed (shown face ss) l.index) (sym c.in_ok-append.ensures)
    (indexed_left face l.solutions c.args.chosen l.index (omega (arith, c.requires.right.long, c.requires.right.marked)) c.requires.right.indexed)

pub returns-clause-right : goal.returns-clause-right
returns-clause-right g c =
    let m = c.args.moves.now in let l = c.args.lists.now in let new = c.put_labels.new.lists in
    put_right_at (g.M.Choices.graph m) (g.met.M.Choices.lawful m) (g.M.Faces.face m) c.args.most l c.requires.right c.args.goal c.args.chosen c.requires.picks c.requires.done c.requires.best
    new.solutions new.labels c.set.new.self new.index (c.in_ok-put_labels.ensures.solutions ∙ c.in_ok-append.ensures)
    (set_is l.spans new.spans c.set.new.self c.args.goal (length l.solutions) (length c.args.chosen) c.len-start.result c.len-count.result
    c.set.ensures c.in_ok-put_labels.ensures.spans c.len-start.ensures c.len-count.ensures)
    c.in_ok-put_labels.ensures.labelled c.in_ok-put_labels.ensures.marked c.in_ok-put_labels.ensures.indexed c.in_ok-put_labels.ensures.long c.in_ok-put_labels.ensures.short c.requires.place

pub returns-clause-kept : goal.returns-clause-kept
returns-clause-kept g c = λ h done.
    let l = c.args.lists.now in
    subst (λ (spans : List (Option Span)). IsDone spans h)
    (sym (set_is l.spans c.put_labels.new.lists.spans c.set.new.self c.args.goal (length l.solutions) (length c.args.chosen) c.len-start.result c.len-count.result
    c.set.ensures c.in_ok-put_labels.ensures.spans c.len-start.ensures c.len-count.ensures))
    (done_kept l.spans c.args.goal (record { start = length l.solutions; count = length c.args.chosen }) c.requires.place h done)

pub returns-clause-done : goal.returns-clause-done
returns-clause-done g c =
    let l = c.args.lists.now in
    subst (λ (spans : List (Option Span)). IsDone spans c.args.goal)
    (sym (set_is l.spans c.put_labels.new.lists.spans c.set.new.self c.args.goal (length l.solutions) (length c.args.chosen) c.len-start.result c.len-count.result
    c.set.ensures c.in_ok-put_labels.ensures.spans c.len-start.ensures c.len-count.ensures))
    (done_set l.spans c.args.goal (record { start = length l.solutions; count = length c.args.chosen }) c.requires.place)
