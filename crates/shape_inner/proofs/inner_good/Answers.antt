-- `inner_good` decides that an inner node of the kind stands there, with InnerLaws at each exit. Assumes nothing.
use mathlib.Core.Path.{◌≡◌, ap}
use Rattle.std.proofs.Common.{rules}
use Rattle.layout.specs.declared.kind.Kind.TheVariants as kind
use native.Mathlib.Omega.{arith}
use Rattle.layout.specs.Kind.{number_of}
use Rattle.layout.proofs.KindLaws.{last_inner}
use Rattle.pieces.proofs.DecideLaws.{denied, passed}
use Rattle.shape_inner.proofs.InnerLaws.{inner_two, inner_four, node4_end, node16_end, node48_end, node256_end}
use Rattle.shape_inner.proofs.inner_good.Goals as goal

pub returns-then-zero-ne0 : goal.returns-then-zero-ne0
returns-then-zero-ne0 c =
    let s = c.args in denied (λ H. c.if-zero-ne0.true (omega (arith, c.zero.ensures.0, inner_two s.f.now s.o _ H.kids H.is)))

pub returns-then-eq : goal.returns-then-eq
returns-then-eq c =
    node4_end _ _ _ _ (record { count = c.count-n.ensures.0; two = omega (arith, c.zero.ensures.0, c.if-zero-ne0.false) }) (let e : c.args.kind ≡ kind.Node4 = search rules in ap number_of e) (passed c.count_fits.ensures c.if-not-count_fits.false-raw) c.requires.room c.sorted_good.ensures

pub returns-then-zero_more-ne0 : goal.returns-then-zero_more-ne0
returns-then-zero_more-ne0 c =
    let s = c.args in denied (λ H. c.if-zero_more-ne0.true (omega (arith, c.zero_more.ensures.0, inner_four s.f.now s.o _ H.kids H.is (search rules))))

pub returns-else-not-count_fits-2 : goal.returns-else-not-count_fits-2
returns-else-not-count_fits-2 c =
    node16_end _ _ _ _ (record { count = c.count-n.ensures.0; two = omega (arith, c.zero.ensures.0, c.if-zero-ne0.false) }) (omega (arith, c.zero_more.ensures.0, c.if-zero_more-ne0.false)) (ap number_of c.in-Node16.is) (passed c.count_fits-in-Node16.ensures c.if-not-count_fits-2.false-raw) c.requires.room c.sorted_good-in-Node16.ensures

pub returns-else-not-count_fits-3 : goal.returns-else-not-count_fits-3
returns-else-not-count_fits-3 c =
    node48_end _ _ _ _ (record { count = c.count-n.ensures.0; two = omega (arith, c.zero.ensures.0, c.if-zero-ne0.false) }) (omega (arith, c.zero_more.ensures.0, c.if-zero_more-ne0.false)) (λ k. omega (arith, c.type_inv.f k)) (ap number_of c.in-Node48.is) (passed c.count_fits-in-Node48.ensures c.if-not-count_fits-3.false-raw) c.requires.room c.indexed_good.ensures

pub returns-else-not-count_fits-4 : goal.returns-else-not-count_fits-4
returns-else-not-count_fits-4 c =
    node256_end _ _ _ _ (record { count = c.count-n.ensures.0; two = omega (arith, c.zero.ensures.0, c.if-zero-ne0.false) }) (omega (arith, c.zero_more.ensures.0, c.if-zero_more-ne0.false)) (λ k. omega (arith, c.type_inv.f k)) (ap number_of (last_inner c.args.kind c.requires.inner (search rules) c.in_default.not-Node16 c.in_default.not-Node48)) (passed c.count_fits-in_default.ensures c.if-not-count_fits-4.false-raw) c.requires.room c.direct_good.ensures
