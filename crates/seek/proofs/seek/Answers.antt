-- The whole gives what this tree gives, or else the spare. Assumes nothing.
use Prim.Native.Nat.{suc}
use mathlib.Core.Path.{refl, sym, ap, ◌∙◌}
use native.Mathlib.Omega.{arith}
use native.Mathlib.Numerals.{add-one}
use lib.ListN.{get_or}
use Rattle.model.specs.Frame.{pairs}
use Rattle.node.specs.Kids.{slot_in}
use Rattle.inside.proofs.InsideLaws.{not_leaf, not_prefix}
use Rattle.seek.specs.Seek.{Nearer}
use Rattle.seek.proofs.DownLaws.{sub_slot, sub_kind}
use Rattle.seek.proofs.LeafLaws.{tail_most}
use Rattle.seek.proofs.WayLaws.{start, this_falls, leaf_some, leaf_hit, leaf_miss, prefix_room, prefix_fits, prefix_some, prefix_above, prefix_below, prefix_on, at_node, nearer_falls, node_end, node_miss, node_on}
use Rattle.seek.proofs.seek.Goals as goal

pub loop-n-init : goal.loop-n-init
loop-n-init c = λ E P. start _ _ _ P

pub read-e-requires : goal.read-e-requires
read-e-requires c = let l = c.loop-n in let P = c.requires.0 in let K = l.invariant P.edition P.holds in sub_slot K.sub

pub kind-requires-clause-low : goal.kind-requires-clause-low
kind-requires-clause-low c = let l = c.loop-n in let P = c.requires.0 in let K = l.invariant P.edition P.holds in omega (arith, sub_kind K.sub, c.read-e.ensures.0)

pub kind-requires-clause-high : goal.kind-requires-clause-high
kind-requires-clause-high c = let l = c.loop-n in let P = c.requires.0 in let K = l.invariant P.edition P.holds in omega (arith, sub_kind K.sub, c.read-e.ensures.0)

pub leaf_reaches-requires : goal.leaf_reaches-requires
leaf_reaches-requires c = let l = c.loop-n in let P = c.requires.0 in let K = l.invariant P.edition P.holds in let h = sym (c.in-Leaf.ensures ∙ c.read-e.ensures.0) in let q = sym c.read-e.ensures.1 in (record { edition = _; holds = leaf_some K h q }, c.requires.1)

pub returns-then-leaf_reaches : goal.returns-then-leaf_reaches
returns-then-leaf_reaches c = λ E H. let l = c.loop-n in let K = l.invariant E H in let h = sym (c.in-Leaf.ensures ∙ c.read-e.ensures.0) in let q = sym c.read-e.ensures.1 in leaf_hit K h q (λ e k v A. sym c.if-leaf_reaches.true ∙ c.leaf_reaches.ensures e k v A)

pub returns-in-Leaf : goal.returns-in-Leaf
returns-in-Leaf c = λ E H. let l = c.loop-n in let K = l.invariant E H in let h = sym (c.in-Leaf.ensures ∙ c.read-e.ensures.0) in let q = sym c.read-e.ensures.1 in leaf_miss K h q (λ e k v A. sym c.if-leaf_reaches.false ∙ c.leaf_reaches.ensures e k v A) (c.fall_back.ensures _ K.spare K.falls)

pub length-n-requires : goal.length-n-requires
length-n-requires c = let l = c.loop-n in let P = c.requires.0 in let K = l.invariant P.edition P.holds in let h = sym (c.in-Prefix.ensures ∙ c.read-e.ensures.0) in let q = sym c.read-e.ensures.1 in prefix_room K h q

pub weigh_bytes-requires : goal.weigh_bytes-requires
weigh_bytes-requires c = let l = c.loop-n in let P = c.requires.0 in let K = l.invariant P.edition P.holds in let h = sym (c.in-Prefix.ensures ∙ c.read-e.ensures.0) in let q = sym c.read-e.ensures.1 in let a = prefix_room K h q in let z = prefix_fits K h q c.length-n.ensures.0 in (omega arith, z.3, omega arith, omega arith)

pub fall_back-requires-in-Greater : goal.fall_back-requires-in-Greater
fall_back-requires-in-Greater c = let l = c.loop-n in let P = c.requires.0 in let K = l.invariant P.edition P.holds in record { edition = _; holds = record { leafy = _; fallback = this_falls K } }

pub returns-in-Greater : goal.returns-in-Greater
returns-in-Greater c = λ E H. let l = c.loop-n in let K = l.invariant E H in let h = sym (c.in-Prefix.ensures ∙ c.read-e.ensures.0) in let q = sym c.read-e.ensures.1 in prefix_above K h q c.length-n.ensures.0 c.in-Greater.ensures (c.fall_back-in-Greater.ensures _ _ (this_falls K))

pub returns-in-Less : goal.returns-in-Less
returns-in-Less c = λ E H. let l = c.loop-n in let K = l.invariant E H in let h = sym (c.in-Prefix.ensures ∙ c.read-e.ensures.0) in let q = sym c.read-e.ensures.1 in prefix_below K h q c.length-n.ensures.0 c.in-Less.ensures (c.fall_back-in-Less.ensures _ K.spare K.falls)

pub child-s-requires : goal.child-s-requires
child-s-requires c = let l = c.loop-n in let P = c.requires.0 in let K = l.invariant P.edition P.holds in let h = sym (c.in-Prefix.ensures ∙ c.read-e.ensures.0) in let q = sym c.read-e.ensures.1 in prefix_room K h q

pub loop-n-smaller-in-Equal : goal.loop-n-smaller-in-Equal
loop-n-smaller-in-Equal c = let l = c.loop-n in let P = c.requires.0 in let K = l.invariant P.edition P.holds in let h = sym (c.in-Prefix.ensures ∙ c.read-e.ensures.0) in let q = sym c.read-e.ensures.1 in let z = prefix_fits K h q c.length-n.ensures.0 in let n = prefix_some K h q c.length-n.ensures.0 in omega arith

pub loop-n-preserved-in-Equal : goal.loop-n-preserved-in-Equal
loop-n-preserved-in-Equal c = λ E H. let l = c.loop-n in let K = l.invariant E H in let h = sym (c.in-Prefix.ensures ∙ c.read-e.ensures.0) in let q = sym c.read-e.ensures.1 in prefix_on K h q c.length-n.ensures.0 c.child-s.ensures.0 c.in-Equal.ensures

pub nearer-requires : goal.nearer-requires
nearer-requires c = let l = c.loop-n in let P = c.requires.0 in let K = l.invariant P.edition P.holds in let k = c.kind.ensures ∙ c.read-e.ensures.0 in let x = not_leaf _ refl c.in_default.not-Leaf in let y = not_prefix _ refl c.in_default.not-Prefix in let q = sym c.read-e.ensures.1 in let m = K.sub.short in let w = K.sub.lawful.fields.words in (record { kids = pairs (at_node K k x y q).kids; node = (at_node K k x y q).inner }, tail_most _ c.requires.1, omega arith)

pub fall_back-requires-then-word-d : goal.fall_back-requires-then-word-d
fall_back-requires-then-word-d c = let l = c.loop-n in let P = c.requires.0 in let K = l.invariant P.edition P.holds in let k = c.kind.ensures ∙ c.read-e.ensures.0 in let x = not_leaf _ refl c.in_default.not-Leaf in let y = not_prefix _ refl c.in_default.not-Prefix in let q = sym c.read-e.ensures.1 in record { edition = _; holds = record { leafy = _; fallback = nearer_falls K k x y q _ c.nearer.ensures } }

pub returns-then-word-d : goal.returns-then-word-d
returns-then-word-d c = λ E H. let l = c.loop-n in let K = l.invariant E H in let k = c.kind.ensures ∙ c.read-e.ensures.0 in let x = not_leaf _ refl c.in_default.not-Leaf in let y = not_prefix _ refl c.in_default.not-Prefix in let q = sym c.read-e.ensures.1 in node_end K k x y q (omega (arith, c.if-word-d.true)) (c.fall_back-then-word-d.ensures _ _ (nearer_falls K k x y q _ c.nearer.ensures))

pub nearer-spare-requires : goal.nearer-spare-requires
nearer-spare-requires c = let l = c.loop-n in let P = c.requires.0 in let K = l.invariant P.edition P.holds in let k = c.kind.ensures ∙ c.read-e.ensures.0 in let x = not_leaf _ refl c.in_default.not-Leaf in let y = not_prefix _ refl c.in_default.not-Prefix in let q = sym c.read-e.ensures.1 in let m = K.sub.short in let w = K.sub.lawful.fields.words in (record { kids = pairs (at_node K k x y q).kids; node = (at_node K k x y q).inner }, omega (arith, c.type_inv.word l.d), omega arith)

pub seat-requires : goal.seat-requires
seat-requires c = let l = c.loop-n in let P = c.requires.0 in let K = l.invariant P.edition P.holds in let k = c.kind.ensures ∙ c.read-e.ensures.0 in let x = not_leaf _ refl c.in_default.not-Leaf in let y = not_prefix _ refl c.in_default.not-Prefix in let q = sym c.read-e.ensures.1 in record { kids = pairs (at_node K k x y q).kids; node = (at_node K k x y q).inner }

pub loop-n-smaller : goal.loop-n-smaller
loop-n-smaller c = let l = c.loop-n in let P = c.requires.0 in let K = l.invariant P.edition P.holds in let k = c.kind.ensures ∙ c.read-e.ensures.0 in let x = not_leaf _ refl c.in_default.not-Leaf in let y = not_prefix _ refl c.in_default.not-Prefix in let q = sym c.read-e.ensures.1 in let m = (at_node K k x y q).short in let w = K.sub.lawful.fields.words in omega arith

pub loop-n-preserved : goal.loop-n-preserved
loop-n-preserved c = λ E H. let l = c.loop-n in let K = l.invariant E H in let k = c.kind.ensures ∙ c.read-e.ensures.0 in let x = not_leaf _ refl c.in_default.not-Leaf in let y = not_prefix _ refl c.in_default.not-Prefix in let q = sym c.read-e.ensures.1 in let d = l.d in let N : Nearer _ _ _ (suc (get_or c.args.word.now d 0)) _ _ _ = rw (add-one, c.from.ensures) at c.nearer-spare.ensures in
    node_on K k x y q (omega (arith, c.if-word-d.false)) N (λ ks A. sym (ap slot_in c.in-Some.is) ∙ (c.seat.ensures ks A).0)

pub fall_back-requires-in-None : goal.fall_back-requires-in-None
fall_back-requires-in-None c = let l = c.loop-n in let P = c.requires.0 in let K = l.invariant P.edition P.holds in let k = c.kind.ensures ∙ c.read-e.ensures.0 in let x = not_leaf _ refl c.in_default.not-Leaf in let y = not_prefix _ refl c.in_default.not-Prefix in let q = sym c.read-e.ensures.1 in record { edition = _; holds = record { leafy = _; fallback = nearer_falls K k x y q _ c.nearer-spare.ensures } }

pub returns-in-None : goal.returns-in-None
returns-in-None c = λ E H. let l = c.loop-n in let K = l.invariant E H in let k = c.kind.ensures ∙ c.read-e.ensures.0 in let x = not_leaf _ refl c.in_default.not-Leaf in let y = not_prefix _ refl c.in_default.not-Prefix in let q = sym c.read-e.ensures.1 in let d = l.d in let N : Nearer _ _ _ (suc (get_or c.args.word.now d 0)) _ _ _ = rw (add-one, c.from.ensures) at c.nearer-spare.ensures in
    node_miss K k x y q (omega (arith, c.if-word-d.false)) (λ ks A. sym (ap slot_in c.in-None.is) ∙ (c.seat.ensures ks A).0) (c.fall_back-in-None.ensures _ _ (nearer_falls K k x y q _ N))
