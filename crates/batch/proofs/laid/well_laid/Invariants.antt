-- `well_laid`: what is left of the changes is laid exactly if the whole is. Assumes nothing.
use Prim.Native.Nat.{◌-◌, ◌≤◌}
use mathlib.Core.Path.{◌≡◌}
use Rattle.editions.specs.Rules.{rules_of}
use Rattle.batch.specs.Layout.{changes_from, changes_of, laid}
use Rattle.batch.proofs.laid.well_laid.Given as goal

abbrev pub invariant-loop-i : goal.invariant-loop-i
invariant-loop-i l = (l.i ≤ l.n) × (laid (changes_of (rules_of l.edition) l.b) ≡ laid (changes_from (rules_of l.edition) l.b (l.n - l.i) l.i l.low))
