-- `put_needs` gives the takes and the extent of the put. Assumes nothing.
use Prim.Native.Nat.{◌+◌}
use mathlib.Core.List.{[]}
use native.Mathlib.Omega.{arith}
use lib.ListN.{length}
use lib.Dec.{eqb}
use Rattle.layout.specs.Kind.{number_of}
use Rattle.model.specs.Tree.{up8}
use Rattle.plan.specs.Plan.{fork_takes, grow_takes}
use Rattle.plan.proofs.PutLaws.{sized, sized_if, small_found, small_new, fork_few, grow_few, asks_empty, asks_found, asks_other, asks_missing, asks_parted, size_fits, extent_fits, leaf_room, node_room, node_grows, other_short, beginning_at, cut_fits, cut_few, last_end}
use Rattle.plan.proofs.put.put_needs.Goals as goal

pub rounded-extent-requires : goal.rounded-extent-requires
rounded-extent-requires c = size_fits c.requires.holds

pub value_length-requires : goal.value_length-requires
value_length-requires c = leaf_room c.requires.holds c.in-Found.is

pub returns-in-Found : goal.returns-in-Found
returns-in-Found c =
    let old = c.value_length in let v = c.args.value.now in (
      small_found (eqb (length v) old.result) c.rounded-extent.result c.replacing.ensures (extent_fits c.requires.holds c.rounded-extent.ensures),
      λ E st W S t. asks_found W S (record { bytes = v; stamp = t }) old.result c.in-Found.is old.ensures.0 (sized_if (eqb (length v) old.result) c.rounded-extent.result (up8 (length c.args.key.now + length v)) c.rounded-extent.ensures c.replacing.ensures),
    )

pub returns-in-Empty : goal.returns-in-Empty
returns-in-Empty c =
    let A = c.recording.ensures [] c.none.ensures in (
      small_new A (omega arith) (extent_fits c.requires.holds c.rounded-extent.ensures),
      λ E st W S t. asks_empty W S (record { bytes = c.args.value.now; stamp = t }) c.in-Empty.is (sized c.rounded-extent.ensures A),
    )

pub bodies_of-requires : goal.bodies_of-requires
bodies_of-requires c = omega (arith, other_short c.requires.holds c.in-Other.is)

pub forking-requires : goal.forking-requires
forking-requires c = omega (arith, c.bodies_of.ensures, other_short c.requires.holds c.in-Other.is)

pub recording-requires-in-Other : goal.recording-requires-in-Other
recording-requires-in-Other c = c.forking.ensures.small

pub returns-in-Other : goal.returns-in-Other
returns-in-Other c =
    let A = c.recording-in-Other.ensures (fork_takes c.bodies_of.result) c.forking.ensures.asks in (
      small_new A (fork_few c.bodies_of.result (omega (arith, c.bodies_of.ensures, other_short c.requires.holds c.in-Other.is))) (extent_fits c.requires.holds c.rounded-extent.ensures),
      λ E st W S t. asks_other W S (record { bytes = c.args.value.now; stamp = t }) c.bodies_of.result c.in-Other.is c.bodies_of.ensures (sized c.rounded-extent.ensures A),
    )

pub count-requires : goal.count-requires
count-requires c = (node_room c.requires.holds c.in-Missing.is).0

pub growing-requires : goal.growing-requires
growing-requires c = node_grows c.requires.holds c.in-Missing.is (c.count.ensures.1 (number_of c.args.spot.here.kind))

pub recording-requires-in-Missing : goal.recording-requires-in-Missing
recording-requires-in-Missing c = c.growing.ensures.small

pub returns-in-Missing : goal.returns-in-Missing
returns-in-Missing c =
    let kind = (number_of c.args.spot.here.kind) in let A = c.recording-in-Missing.ensures (grow_takes c.count.result kind) c.growing.ensures.asks in (
      small_new A (grow_few c.count.result kind) (extent_fits c.requires.holds c.rounded-extent.ensures),
      λ E st W S t. asks_missing W S (record { bytes = c.args.value.now; stamp = t }) c.count.result c.in-Missing.is (c.count.ensures.1 kind) (sized c.rounded-extent.ensures A),
    )

pub beginning-requires : goal.beginning-requires
beginning-requires c =
    beginning_at c.requires.holds (last_end c.requires.holds c.in_default.not-Found c.in_default.not-Empty c.in_default.not-Other c.in_default.not-Missing)

pub cutting-more-requires : goal.cutting-more-requires
cutting-more-requires c =
    let e = last_end c.requires.holds c.in_default.not-Found c.in_default.not-Empty c.in_default.not-Other c.in_default.not-Missing in
    cut_fits c.requires.holds e c.beginning.ensures

pub forking-requires-in_default : goal.forking-requires-in_default
forking-requires-in_default c =
    let e = last_end c.requires.holds c.in_default.not-Found c.in_default.not-Empty c.in_default.not-Other c.in_default.not-Missing in
    let f = cut_fits c.requires.holds e c.beginning.ensures in
    omega (arith, cut_few c.args.spot.shared c.beginning.result c.cutting-more.result f.1 f.2 c.cutting-more.ensures)

pub recording-requires-in_default : goal.recording-requires-in_default
recording-requires-in_default c = c.forking-in_default.ensures.small

pub returns-in_default : goal.returns-in_default
returns-in_default c =
    let q = c.args.spot.shared in let e = last_end c.requires.holds c.in_default.not-Found c.in_default.not-Empty c.in_default.not-Other c.in_default.not-Missing in
    let f = cut_fits c.requires.holds e c.beginning.ensures in
    let A = c.recording-in_default.ensures (fork_takes c.cutting-more.result) c.forking-in_default.ensures.asks in (
      small_new A (fork_few c.cutting-more.result (cut_few q c.beginning.result c.cutting-more.result f.1 f.2 c.cutting-more.ensures)) (extent_fits c.requires.holds c.rounded-extent.ensures),
      λ E st W S t. asks_parted W S (record { bytes = c.args.value.now; stamp = t }) c.cutting-more.result c.beginning.result e c.beginning.ensures c.cutting-more.ensures (sized c.rounded-extent.ensures A),
    )
