-- The cases of a command, and the parts of the session that a line leaves alone. Assumes nothing.
use Prim.Native.Nat.{ℕ, ◌<◌, ◌≤◌}
use mathlib.Core.Path.{◌≡◌, refl, ap}
use Rattle.std.specs.Prelude.{Option, Some, None}
use mathlib.Core.List.{List, ◌++◌}
use lib.ListN.{length, take, drop}
use native.Mathlib.Omega.{arith}
use Rattle.lines.specs.declared.command.Command.{Command}
use Rattle.lines.specs.declared.command.Command.TheVariants.{Format, Put, Get, Erase, Pack}
use Rattle.lines.specs.Input.{come}
use Rattle.lines.specs.Line.{Said, unknown, of_command, said}
use Rattle.model.specs.Edition.{Edition}
use Rattle.model.proofs.StringLaws.{clash}
use Rattle.dialog.proofs.AnswerLaws.{back}
use Rattle.dialog.specs.Answer.{question, Does, Goes, Steps, Replies}

module _ (E : Edition) where
  pub goes : {b b' text : List ℕ} {long long' : Option ℕ} (r : Command) → ((f n : ℕ) → r ≡ Format f n → ⊥) → Goes E b long (of_command r) b' long' text
      → Steps E b long (of_command r) b' long' text
  goes (Format f n) k a = absurd (k f n refl)
  goes (Put p v) k a = a
  goes (Get p) k a = a
  goes (Erase p) k a = a
  goes Pack k a = a

  -- there is no frame, or the call had the first bytes of the buffer
  pub without : (b : List ℕ) {text : List ℕ} (s : Said) → text ≡ question → Goes E b None s b None text
  without b s q = record { none = λ _. (q, refl); some = λ n e. clash (let y : None ≡ Some n = e in cc); same = refl }

  pub within : (b ys : List ℕ) (long : ℕ) {text : List ℕ} (s : Said) → long ≤ length b → length ys ≡ length (take long b)
      → Does E (take long b) s ys text → Goes E b (Some long) s (ys ++ drop long b) (Some long) text
  within b ys long s h k d =
      record {
        none = λ e. clash (let y : Some long ≡ None = e in cc);
        some = λ n e. rw (← (let y : long ≡ n = ap come e in y), back b ys long h k) d;
        same = refl;
      }

  -- a line that is no command
  pub unknown_line : (b : List ℕ) (long : Option ℕ) {text : List ℕ} → text ≡ question → Steps E b long unknown b long text
  unknown_line b long q = record { none = λ _. (q, refl); some = λ n e. (q, refl); same = refl }

-- a line that was gathered: it is too long, or not
pub too_long : {E : Edition} {b text : List ℕ} {long : Option ℕ} → text ≡ question → (line : List ℕ) → 1024 < length line → Replies E b long line b long text
too_long q line h = record { over = λ _. ((q, refl), refl); steps = λ l. absurd (omega arith) }

pub not_too_long : {E : Edition} {b b' text heard : List ℕ} {long long' : Option ℕ} → Steps E b long (said heard) b' long' text
    → (line : List ℕ) → (heard ≡ line) × (length line ≤ 1024) → Replies E b long line b' long' text
not_too_long s line h = record { over = λ l. absurd (omega (arith, h.1)); steps = λ _. rw h.0 at s }
