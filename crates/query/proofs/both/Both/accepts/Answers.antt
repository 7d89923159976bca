use Rattle.query.proofs.Product.{accepts_both}
use Rattle.query.proofs.both.Both.accepts.Goals as goal

pub returns-clause-law : goal.returns-clause-law
returns-clause-law g c = accepts_both _ _ (g.met.A.Query.lawful c.args.self.now.first) (g.met.B.Query.lawful c.args.self.now.second)
