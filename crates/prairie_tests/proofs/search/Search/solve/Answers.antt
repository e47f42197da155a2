use Rattle.best_plan.proofs.TableLaws.{reserved_right}
use Rattle.prairie_tests.specs.Listed.{graph_of, reaches_of}
use Rattle.prairie_tests.specs.Laws.{choices_of}
use Rattle.prairie_tests.proofs.search.Search.solve.Goals as goal

pub solve-requires-clause-right : goal.solve-requires-clause-right
solve-requires-clause-right c =
    let s = c.args.self.now.moves in
    reserved_right (graph_of s.ways s.opened.items) (choices_of s.ways s.opened.items) (reaches_of s.ways) c.reserve.result c.args.self.now.table c.reserve.new.self c.goals-goals.result
    c.reserve.ensures.ok c.reserve.ensures.err c.args.self.now.right
