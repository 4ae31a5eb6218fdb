-- `forking` needs a Node4, and the Prefixes. Assumes nothing.
use mathlib.Core.Path.{refl}
use mathlib.Core.List.{[]}
use Rattle.plan.proofs.PutLaws.{fork_many}
use Rattle.plan.proofs.put.forking.Goals as goal

pub returns : goal.returns
returns c =
    fork_many _ c.args.n (c.with-next.ensures [] 0 c.none-none.ensures) refl refl c.requires
