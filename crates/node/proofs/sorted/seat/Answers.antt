-- The place that is found is the list's, and beyond the count there is none. Assumes nothing.
use Prim.Native.Nat.{◌<◌}
use native.Mathlib.Omega.{arith}
use mathlib.Core.Path.{◌∙◌}
use lib.ListN.{length}
use Rattle.node.proofs.SortedLaws.{sorted_row, seat_in, seat_out}
use Rattle.node.proofs.sorted.seat.Goals as goal

pub returns-then-n-i : goal.returns-then-n-i
returns-then-n-i g c =
    let n = c.count-n.ensures.0 in let P = rw c.BYTES.ensures at c.place-i.ensures in λ ks N.
    let e = P.1 ks (sorted_row N) (n ∙ N.count) in
    (seat_out c.args.b c.place-i.result ks e (omega (arith, N.count)), omega arith)

pub returns : goal.returns
returns g c =
    let n = c.count-n.ensures.0 in let P = rw c.BYTES.ensures at c.place-i.ensures in λ ks N.
    let e = P.1 ks (sorted_row N) (n ∙ N.count) in
    let a = c.args in let l : c.place-i.result < length ks = omega (arith, N.count) in
    (seat_in a.b c.place-i.result ks N g.K.Ascending.behind e l (omega arith) c.child.ensures.0, omega arith)
