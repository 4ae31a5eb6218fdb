-- The outer loop arrives at slots: its invariant is `Coming`. The inner one walks a node's children and goes back to those that wait: `Walking`, with one law
-- for each turn (WayLaws). Every arrival counts a body; of the turns of the inner loop a Leaf counts one, and the way back makes the path shorter. Assumes
-- nothing.
use Prim.Native.Nat.{ℕ, ◌+◌, ◌-◌}
use mathlib.Core.Path.{refl, sym, ap, ◌∙◌}
use native.Mathlib.Omega.{arith}
use lib.ListN.{length-set}
use Rattle.editions.proofs.RulesLaws.{lawful}
use Rattle.audit.proofs.WalkLaws.{path_length, slot_fails, slot_at}
use Rattle.audit.proofs.WayLaws.{node_room, tree_more, walk_start, come_entry, come_refused, come_prefix, come_node, walk_room, walk_few, walk_end, walk_refused, walk_leaf, walk_down, walk_above, walk_back}
use Rattle.audit.proofs.walk.along.Goals as goal

pub arrive-init : goal.arrive-init
arrive-init g c =
    let p = c.requires in let e = c.read-entry.ensures in
    (refl, refl, refl, walk_start _ _ e.0 e.1 e.3 p.slot.0 p.slot.1 (λ y. p.other (sym e.0 ∙ y)) p.tally)

pub returns-in_err-k : goal.returns-in_err-k
returns-in_err-k g c =
    let v = c.arrive.invariant in let p = c.requires in
    rw c.from_residual.ensures (come_refused v.3 (c.past_prefix.ensures.1.fails c.in_err-k.was _ (rw c.edition-named.ensures at (lawful c.edition-named.result)) (omega (arith, v.1, p.arrays.words, c.past_prefix.auto))))

pub arrive-smaller-then-entry-number : goal.arrive-smaller-then-entry-number
arrive-smaller-then-entry-number g c =
    let L = c.past_prefix.ensures.1.holds _ c.in_ok-k.was in omega (arith, L.more, L.tally.slots)

pub arrive-preserved-then-entry-number : goal.arrive-preserved-then-entry-number
arrive-preserved-then-entry-number g c =
    let v = c.arrive.invariant in let P = c.past_prefix in
    (omega (arith, v.0, P.auto), omega (arith, v.1, P.auto), v.2, come_prefix v.3 P.ensures.0 (P.ensures.1.holds _ c.in_ok-k.was))

pub returns-in_err-sums : goal.returns-in_err-sums
returns-in_err-sums g c =
    let v = c.arrive.invariant in let C = v.3 in
    rw c.from_residual-in_err-sums.ensures
    (come_refused C (c.node.ensures.fails c.in_err-sums.was _ (rw c.edition-named.ensures at (lawful c.edition-named.result)) (omega (arith, v.1, c.requires.arrays.words)) _ c.arrive.slot (path_length c.arrive.path c.arrive.depth C.short) (come_entry C) C.first C.last))

pub kind-kind-requires-clause-low : goal.kind-kind-requires-clause-low
kind-kind-requires-clause-low g c =
    let N = c.node.ensures.holds _ c.in_ok-sums.was in omega (arith, N.node.is.range)

pub kind-kind-requires-clause-high : goal.kind-kind-requires-clause-high
kind-kind-requires-clause-high g c =
    let N = c.node.ensures.holds _ c.in_ok-sums.was in omega (arith, N.node.is.range)

pub count-n-requires : goal.count-n-requires
count-n-requires g c =
    let N = c.node.ensures.holds _ c.in_ok-sums.was in omega (arith, node_room N.node.is N.room, c.requires.inside)

pub children-init : goal.children-init
children-init g c =
    let v = c.arrive.invariant in
    (omega (arith, v.0, c.node.auto), v.1, v.2, omega arith, rw c.kind-kind.ensures (come_node v.3 (c.node.ensures.holds _ c.in_ok-sums.was) (λ ks M. c.count-n.ensures.1 _ ks M)))

pub returns-then-c-lt1 : goal.returns-then-c-lt1
returns-then-c-lt1 g c =
    let W = c.children.invariant.4 in let e = c.child_at-c.ensures.1 W.kids W.node W.reached in
    walk_refused W c.if-i-n.true e.0 e.1 (slot_fails (λ a z. omega (arith, c.if-c-lt1.true)))

pub returns-then-bounds-c : goal.returns-then-bounds-c
returns-then-bounds-c g c =
    let W = c.children.invariant.4 in let e = c.child_at-c.ensures.1 W.kids W.node W.reached in
    walk_refused W c.if-i-n.true e.0 e.1 (slot_fails (λ a z. omega (arith, c.if-bounds-c.true)))

pub returns-in_err-sums-2 : goal.returns-in_err-sums-2
returns-in_err-sums-2 g c =
    let W = c.children.invariant.4 in let e = c.child_at-c.ensures.1 W.kids W.node W.reached in
    let T = slot_at c.read-e.ensures.0 c.read-e.ensures.1 (omega (arith, c.if-c-lt1.false)) (omega (arith, c.if-bounds-c.false)) (c.if-e-number.true ∙ c.number-then-i-n.ensures.value) (rw c.edition-named.ensures at c.leaf.ensures) in
    rw c.from_residual-in_err-sums-2.ensures (walk_refused W c.if-i-n.true e.0 e.1 (T.fails c.in_err-sums-2.was))

pub children-smaller-then-e-number : goal.children-smaller-then-e-number
children-smaller-then-e-number g c =
    let T = slot_at c.read-e.ensures.0 c.read-e.ensures.1 (omega (arith, c.if-c-lt1.false)) (omega (arith, c.if-bounds-c.false)) (c.if-e-number.true ∙ c.number-then-i-n.ensures.value) (rw c.edition-named.ensures at c.leaf.ensures) in
    let y = tree_more T c.in_ok-sums-2.was in omega (arith, y.0, y.1)

pub children-preserved-then-e-number : goal.children-preserved-then-e-number
children-preserved-then-e-number g c =
    let u = c.children.invariant in let W = u.4 in let e = c.child_at-c.ensures.1 W.kids W.node W.reached in
    let T = slot_at c.read-e.ensures.0 c.read-e.ensures.1 (omega (arith, c.if-c-lt1.false)) (omega (arith, c.if-bounds-c.false)) (c.if-e-number.true ∙ c.number-then-i-n.ensures.value) (rw c.edition-named.ensures at c.leaf.ensures) in
    (omega (arith, u.0, c.leaf.auto), simp length-set u.1, u.2, omega (arith, u.3, (tree_more T c.in_ok-sums-2.was).0), walk_leaf W c.if-i-n.true e.0 e.1 T c.in_ok-sums-2.was refl refl c.child_at-c.ensures.0)

pub bounds-waits-waiting : goal.bounds-waits-waiting
bounds-waits-waiting g c =
    let u = c.children.invariant in
    omega (arith, c.requires.arrays.room c.children.waiting (omega (arith, walk_room u.4, u.1)) (walk_few u.4), u.2)

pub arrive-smaller : goal.arrive-smaller
arrive-smaller g c =
    let N = c.node.ensures.holds _ c.in_ok-sums.was in omega (arith, N.more, N.tally.slots, c.children.invariant.3)

pub arrive-preserved : goal.arrive-preserved
arrive-preserved g c =
    let u = c.children.invariant in let W = u.4 in let p = c.requires.arrays in
    let e = c.child_at-c.ensures.1 W.kids W.node W.reached in
    let r = c.read-e.ensures in
    let room = p.room c.children.waiting (omega (arith, walk_room W, u.1)) (walk_few W) in
    (u.0, simp length-set u.1, simp length-set u.2, walk_down W c.if-i-n.true e.0 e.1 c.child_at-c.ensures.0 (omega (arith, u.1, p.most)) (omega (arith, room, u.2)) c.from.ensures r.0 r.1 r.3 (omega (arith, c.if-c-lt1.false)) (omega (arith, c.if-bounds-c.false)) (λ q. c.if-e-number.false (q ∙ sym c.number-then-i-n.ensures.value)) refl refl)

pub returns-then-waiting-eq0 : goal.returns-then-waiting-eq0
returns-then-waiting-eq0 g c = walk_end c.children.invariant.4 (omega (arith, c.if-i-n.false)) c.if-waiting-eq0.true

pub bounds-waits-waiting-in-children : goal.bounds-waits-waiting-in-children
bounds-waits-waiting-in-children g c =
    let u = c.children.invariant in
    omega (arith, c.requires.arrays.room c.children.waiting (omega (arith, walk_room u.4, u.1)) (walk_few u.4), u.2, c.if-waiting-eq0.false)

pub bounds-path-depth-in-children : goal.bounds-path-depth-in-children
bounds-path-depth-in-children g c =
    let W = c.children.invariant.4 in let A = walk_above W (c.children.waiting - 1) (omega (arith, c.if-waiting-eq0.false)) in
    omega (arith, A.less, W.short, c.from-w.ensures.1)

pub read-e-requires-in-children : goal.read-e-requires-in-children
read-e-requires-in-children g c =
    let W = c.children.invariant.4 in let A = walk_above W (c.children.waiting - 1) (omega (arith, c.if-waiting-eq0.false)) in
    let e = c.from-w.ensures.0 in (omega (arith, A.first, e), omega (arith, A.last, c.requires.inside, e))

pub kind-kind-requires-in-children-clause-low : goal.kind-kind-requires-in-children-clause-low
kind-kind-requires-in-children-clause-low g c =
    let A = walk_above c.children.invariant.4 (c.children.waiting - 1) (omega (arith, c.if-waiting-eq0.false)) in
    let h = rw (sym c.from-w.ensures.0) at A.least in omega (arith, h, c.read-e-in-children.ensures.0)

pub kind-kind-requires-in-children-clause-high : goal.kind-kind-requires-in-children-clause-high
kind-kind-requires-in-children-clause-high g c =
    let A = walk_above c.children.invariant.4 (c.children.waiting - 1) (omega (arith, c.if-waiting-eq0.false)) in
    let h = rw (sym c.from-w.ensures.0) at A.most in omega (arith, h, c.read-e-in-children.ensures.0)

pub count-n-requires-in-children : goal.count-n-requires-in-children
count-n-requires-in-children g c =
    let W = c.children.invariant.4 in let A = walk_above W (c.children.waiting - 1) (omega (arith, c.if-waiting-eq0.false)) in
    let h = rw (sym c.from-w.ensures.0) at A.room in omega (arith, h, c.read-e-in-children.ensures.1, c.requires.inside)

pub children-smaller : goal.children-smaller
children-smaller g c =
    let W = c.children.invariant.4 in let w = c.from-w.ensures in
    omega (arith, (walk_back W {top = c.children.waiting - 1} (omega (arith, c.if-i-n.false)) (omega (arith, c.if-waiting-eq0.false)) w.0 w.1 (ap (λ (k : ℕ). k + 1) w.2) (ap (λ (k : ℕ). k + 1) c.from-from.ensures) c.read-e-in-children.ensures.0 c.read-e-in-children.ensures.1 (λ h ls M. c.count-n-in-children.ensures.1 h ls M)).0)

pub children-preserved : goal.children-preserved
children-preserved g c =
    let u = c.children.invariant in let w = c.from-w.ensures in
    (u.0, u.1, u.2, u.3, (rw c.kind-kind-in-children.ensures (walk_back u.4 {top = c.children.waiting - 1} (omega (arith, c.if-i-n.false)) (omega (arith, c.if-waiting-eq0.false)) w.0 w.1 (ap (λ (k : ℕ). k + 1) w.2) (ap (λ (k : ℕ). k + 1) c.from-from.ensures) c.read-e-in-children.ensures.0 c.read-e-in-children.ensures.1 (λ h ls M. c.count-n-in-children.ensures.1 h ls M)).1))
