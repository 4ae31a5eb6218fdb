-- `push` turns a full Prefix at each turn, until one has room or there is none. Assumes nothing.
use mathlib.Core.Path.{◌≡◌}
use native.Mathlib.Omega.{arith}
use Rattle.chain.proofs.PushLaws.{pushes_slot, pushes_link, pushes_takes, pushes_entry, pushes_fresh, pushes_named, pushes_low, pushes_left, pushes_spare, pushes_full, pushes_again, push_node, push_short, push_full}
use Rattle.layout.specs.Entry.{high_of}
use Rattle.chain.proofs.shift.push.Goals.{else-loop-test, then-loop-test+in_default}
use Rattle.chain.proofs.shift.push.Goals as goal

pub prefix_at-requires : goal.prefix_at-requires
prefix_at-requires c =
    let v = c.loop.invariant in pushes_slot v.0

pub relink-requires : goal.relink-requires
relink-requires c =
    let v = c.loop.invariant in pushes_link v.0

pub length-requires : goal.length-requires
length-requires c =
    let v = c.loop.invariant in let e = c.in-Some.ensures in let g = c.relink.ensures in pushes_low v.0 e.0 e.1 g

pub front-requires : goal.front-requires
front-requires c =
    let v = c.loop.invariant in let e = c.in-Some.ensures in let g = c.relink.ensures in let n = c.length.ensures.0 in pushes_spare v.0 e.0 e.1 g n (omega arith)

pub returns-then-length-lt-MOST : goal.returns-then-length-lt-MOST
returns-then-length-lt-MOST c =
    let v = c.loop.invariant in let e = c.in-Some.ensures in let g = c.relink.ensures in let n = c.length.ensures.0 in v.1 _ (push_short e.0 e.1 g n (omega arith) c.front.ensures)

pub turn-byte-requires : goal.turn-byte-requires
turn-byte-requires c =
    let v = c.loop.invariant in let e = c.in-Some.ensures in let g = c.relink.ensures in let n = c.length.ensures.0 in pushes_full v.0 e.0 e.1 g n (omega arith)

pub overflow_add-name : goal.overflow_add-name
overflow_add-name c =
    let v = c.loop.invariant in let e = c.in-Some.ensures in let g = c.relink.ensures in let z = pushes_low v.0 e.0 e.1 g in
    omega arith

pub child-s-requires : goal.child-s-requires
child-s-requires c =
    let v = c.loop.invariant in let e = c.in-Some.ensures in let g = c.relink.ensures in let z = pushes_low v.0 e.0 e.1 g in
    omega arith

pub loop-preserved : goal.loop-preserved
loop-preserved c =
    let v = c.loop.invariant in let e = c.in-Some.ensures in let g = c.relink.ensures in let n = c.length.ensures.0 in (
      pushes_again v.0 e.0 e.1 g n (omega arith) c.turn-byte.ensures c.child-s.ensures.0 (omega arith),
      λ h X. v.1 h (push_full e.0 e.1 g n (omega arith) c.turn-byte.ensures c.child-s.ensures.0 h X),
    )

pub take-new-requires : goal.take-new-requires
take-new-requires c =
    let v = c.loop.invariant in
    let d : high_of c.loop.f c.loop.s ≡ 2 → ⊥ = λ z. elim c.loop-test.branch [ else-loop-test w ↦ omega (arith, pushes_left v.0 z) | then-loop-test+in_default w ↦ w.in_default.ensures z ] in
    pushes_takes v.0 d

pub read-body-requires : goal.read-body-requires
read-body-requires c =
    let v = c.loop.invariant in
    let d : high_of c.loop.f c.loop.s ≡ 2 → ⊥ = λ z. elim c.loop-test.branch [ else-loop-test w ↦ omega (arith, pushes_left v.0 z) | then-loop-test+in_default w ↦ w.in_default.ensures z ] in
    pushes_entry v.0 d c.take-new.ensures

pub fresh-requires : goal.fresh-requires
fresh-requires c =
    let v = c.loop.invariant in
    let d : high_of c.loop.f c.loop.s ≡ 2 → ⊥ = λ z. elim c.loop-test.branch [ else-loop-test w ↦ omega (arith, pushes_left v.0 z) | then-loop-test+in_default w ↦ w.in_default.ensures z ] in
    pushes_fresh v.0 d c.take-new.ensures c.read-body.ensures.1

pub relink-requires-2 : goal.relink-requires-2
relink-requires-2 c =
    let v = c.loop.invariant in
    let d : high_of c.loop.f c.loop.s ≡ 2 → ⊥ = λ z. elim c.loop-test.branch [ else-loop-test w ↦ omega (arith, pushes_left v.0 z) | then-loop-test+in_default w ↦ w.in_default.ensures z ] in
    pushes_named v.0 d c.take-new.ensures c.read-body.ensures.1 c.fresh.ensures

pub returns : goal.returns
returns c =
    let v = c.loop.invariant in
    let d : high_of c.loop.f c.loop.s ≡ 2 → ⊥ = λ z. elim c.loop-test.branch [ else-loop-test w ↦ omega (arith, pushes_left v.0 z) | then-loop-test+in_default w ↦ w.in_default.ensures z ] in
    v.1 _ (push_node d c.take-new.ensures c.read-body.ensures.1 c.fresh.ensures c.relink-2.ensures)
