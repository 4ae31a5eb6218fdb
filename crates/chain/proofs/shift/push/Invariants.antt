-- `push` turns a full Prefix at each turn, until one has room or there is none. Assumes nothing.
use Prim.Native.Nat.{ℕ, ◌-◌}
use mathlib.Core.List.{List}
use Rattle.chain.specs.Shift.{Pushes, RunPushed}
use Rattle.chain.proofs.shift.push.Given as goal

abbrev pub invariant-loop : goal.invariant-loop
invariant-loop l = Pushes l.f l.s l.byte l.name (5 - l.counter) × ((g : List ℕ) → RunPushed l.f g l.s l.byte l.name → RunPushed l.initial.f g l.slot l.b l.at)
