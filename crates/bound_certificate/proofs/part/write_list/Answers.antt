use Rattle.serde_json.specs.View.{view}
use Rattle.bound_certificate.proofs.EachLaws.{AllByRecursion-more, map-more}
use Rattle.bound_certificate.proofs.part.write_list.Goals as goal

pub loop-part-preserved : goal.loop-part-preserved
loop-part-preserved g c = record {
  written = rw c.in_ok-push.ensures.items
      (map-more view (g.T.Part.datum c.args.names.now) c.loop-part.written.items c.args.parts.now c.loop-part.part-index c.in_ok-write.field-0 c.part-item.result c.loop-part-test.true c.part-item.is c.loop-part.invariant.written c.in_ok-write.ensures.written);
  fine = AllByRecursion-more g.T.Part.fine c.args.parts.now c.loop-part.part-index c.part-item.result c.loop-part-test.true c.part-item.is c.loop-part.invariant.fine c.in_ok-write.ensures.fine;
}
