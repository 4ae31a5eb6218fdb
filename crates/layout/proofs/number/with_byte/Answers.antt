-- One byte more, in front of those behind it. Assumes nothing.
use Rattle.std.proofs.Common.{◌+◌, arith}
use Rattle.layout.proofs.Widths.{byte_more, byte_fits, byte_room, byte_none}
use Rattle.layout.proofs.number.with_byte.Goals as goal

pub overflow_mul-result : goal.overflow_mul-result
overflow_mul-result g c = omega (arith, byte_room _ _ _ c.requires.width c.if-k.true c.requires.behind_fits)

pub overflow_add-result : goal.overflow_add-result
overflow_add-result g c = omega (arith, byte_room _ _ _ c.requires.width c.if-k.true c.requires.behind_fits, c.from.ensures, c.type_inv.f (c.args.o + c.args.k))

pub returns-then-k-clause-value : goal.returns-then-k-clause-value
returns-then-k-clause-value g c = rw c.from.ensures (byte_more _ _ _ _ _ c.if-k.true c.requires.behind)

pub returns-then-k-clause-fits : goal.returns-then-k-clause-fits
returns-then-k-clause-fits g c = byte_fits _ _ _ _ c.if-k.true (omega (arith, c.from.ensures, c.type_inv.f (c.args.o + c.args.k))) c.requires.behind_fits

pub returns-clause-value : goal.returns-clause-value
returns-clause-value g c = byte_none _ _ _ _ _ _ (omega (arith, c.if-k.false)) c.requires.behind
