use Rattle.std.proofs.Common.{ap}
use Rattle.pr_value.specs.Placed.{Placed}
use Rattle.pr_value.proofs.ZipLaws.{first_at}
use Rattle.pr_value.proofs.tokens.Tokens.token.Goals as goal

pub returns : goal.returns
returns c =
    first_at c.self.inside.tokens.items c.self.inside.places.items c.args.self.now.placed c.args.i c.index.result.now c.self.invariant (ap (λ (v : Placed). v.placed) c.self.view_is) c.requires c.index.ensures
