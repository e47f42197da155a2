use Rattle.std.proofs.Common.{◌≡◌, ℕ, ◌<◌, true}
use Rattle.std.specs.List.{AllZip}
use Rattle.replan.specs.Carried.{KeptAs, flagged}
use Rattle.replan.proofs.matching.is_match.Given as goal

abbrev pub invariant-loop-k : goal.invariant-loop-k
invariant-loop-k g l = record {
  forms : (n : ℕ) → n < l.k → g.M.Forms.same_form l.new l.goal n l.old l.was n ≡ true;
  inputs : (n : ℕ) → n < l.k → AllZip (KeptAs (flagged l.kept) l.places) ((g.M.Choices.graph l.new).alternative l.goal n).inputs ((g.M.Choices.graph l.old).alternative l.was n).inputs;
}
