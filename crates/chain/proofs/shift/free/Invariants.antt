-- `free` frees the first body of the run at each turn, until what is left is no Prefix. Assumes nothing.
use Prim.Native.Nat.{ℕ, ◌-◌}
use mathlib.Core.List.{List}
use Rattle.chain.specs.Shift.{Frees, RunFreed}
use Rattle.chain.proofs.shift.free.Given as goal

abbrev pub invariant-loop : goal.invariant-loop
invariant-loop l = Frees l.f l.top (5 - l.counter) × ((g : List ℕ) → RunFreed l.f g l.top → RunFreed l.initial.f g l.slot)
