use Rattle.std.proofs.Common.{◌≡◌, length}
use Rattle.k_best.specs.Showings.{shown}
use Rattle.k_best.specs.Lists.{AreLabelled}
use Rattle.k_best.specs.Indexes.{IsIndexed}
use Rattle.k_best.proofs.putting.put_labels.Given as goal

abbrev pub invariant-loop-at : goal.invariant-loop-at
invariant-loop-at g l = record {
  labelled : AreLabelled (g.M.Faces.face l.moves) l.lists.solutions l.lists.labels;
  long : length l.lists.labels ≡ l.at;
  marked : length l.lists.index.marks ≡ length l.lists.labels;
  indexed : IsIndexed (shown (g.M.Faces.face l.moves) l.lists.solutions) l.lists.index;
  solutions : l.lists.solutions ≡ l.fn.lists.solutions;
  spans : l.lists.spans ≡ l.fn.lists.spans;
}
