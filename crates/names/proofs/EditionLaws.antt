-- What a listing asks of an edition, and that every one that the code names has it. Assumes nothing.
use Prim.Native.Nat.{ℕ, ◌<◌, ◌≤◌}
use native.Mathlib.Omega.{arith}
use mathlib.Core.Path.{◌≡◌, sym, ◌∙◌}
use mathlib.Core.List.{List}
use mathlib.Core.Option.{Option}
use lib.ListN.{length, take, drop, length-take}
use lib.Seq.{get_or-take, get_or-drop}
use Rattle.layout.specs.Number.{Bytes}
use Rattle.model.specs.Strings.{All, Byte}
use Rattle.model.specs.Edition.{Edition, edition_of, Lawful}
use Rattle.model.proofs.Edition2.{lawful_of, key_sized}
use Rattle.editions.specs.declared.Edition.{Edition as Named}
use Rattle.editions.specs.Rules.{rules_of}
use Rattle.editions.proofs.RulesLaws.{number_names}
use Rattle.model.proofs.StandsGood.{bytes_text}
use Rattle.listing.specs.Listing.{entry_for}
use Rattle.listing.proofs.PagesLaws.{entry_legal}

pub record Naming (E : Edition) : Type 0 where
  pub lawful : Lawful E
  pub entries : (d : Option ℕ) (p k : List ℕ) → E.key_fault k ≡ 0 → E.key_fault (entry_for d p k) ≡ 0
  pub most : (k : List ℕ) → E.key_fault k ≡ 0 → length k ≤ 255

of_number : (n : ℕ) → Naming (edition_of n)
of_number n = record { lawful = lawful_of n; entries = entry_legal n; most = λ k e. (key_sized n k e).short }

pub naming : (e : Named) → Naming (rules_of e)
naming e = rw (number_names e) at (of_number (rules_of e).number)

-- a part of a frame is a string of bytes
pub part_bytes : (f : List ℕ) (a n : ℕ) → Bytes f → All Byte (take n (drop a f))
part_bytes f a n B =
    bytes_text f a (take n (drop a f)) B
    (λ i l. let h : i < n = omega (arith, simp length-take at l) in sym (get_or-take n (drop a f) i 0 h ∙ get_or-drop a f i 0))
