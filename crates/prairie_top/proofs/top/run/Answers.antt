use Rattle.std.proofs.Common.{refl}
use Rattle.prairie_top.specs.Messages.{memory_text}
use Rattle.prairie_top.specs.Outcome.{wanting}
use Rattle.prairie_top.specs.Run.{Fetches}
use Rattle.prairie_top.specs.declared.status.Status.TheVariants as status
use Rattle.prairie_top.proofs.LawLemmas.{no_write_fault}
use Rattle.prairie_top.proofs.top.run.Goals as goal

pub put-requires : goal.put-requires
put-requires g c =
    let fetches : Fetches = record { held = g.F.Shelf.held c.args.shelf.now; sure = g.F.Shelf.sure c.args.shelf.now; before = g.F.Shelf.faults c.args.shelf.now; after = g.F.Shelf.faults c.answer.new.shelf } in
    no_write_fault c.args.words.now fetches c.in-Ok.came c.answer.new.text c.in-Ok.ensures.comes

pub returns-clause-answer : goal.returns-clause-answer
returns-clause-answer g c = record { came = status.Memory; text = memory_text; comes = wanting refl refl; put = c.put-in-Err.ensures.put }
