-- `fill` draws bytes up at each turn, until what is below fits or is no Prefix. Assumes nothing.
use Prim.Native.Nat.{ℕ, ◌-◌}
use mathlib.Core.List.{List}
use Rattle.chain.specs.Shift.{Fills, RunFilled}
use Rattle.chain.proofs.shift.fill.Given as goal

abbrev pub invariant-loop : goal.invariant-loop
invariant-loop l = Fills l.f l.at l.s (5 - l.counter) × ((g : List ℕ) → RunFilled l.f g l.at l.s → RunFilled l.initial.f g l.o l.slot)
