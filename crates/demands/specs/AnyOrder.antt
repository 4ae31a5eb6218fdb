-- "Any order, not only two" (document 02, Q-14), over the promises of the public calls alone.
use Rattle.std.specs.Prelude.{ℕ, List, [], ◌∷◌}
use Rattle.model.specs.Edition.{Edition}
use Rattle.model.specs.Frame.{Good}
use Rattle.model.specs.Call.{Call}
use Rattle.sequence.specs.Sequence.{Made, SameCalls, SameAnswers}
use Rattle.demands.specs.Words.{NotRefused, OfBytes}
use Rattle.demands.specs.Demands.{PackAlike}

abbrev pub AllOfBytes : Edition → List Call → Type 0
AllOfBytes E [] = Unit {0}
AllOfBytes E (c ∷ cs) = OfBytes E c × AllOfBytes E cs

abbrev pub NoneRefused : List ℕ → Type 0
NoneRefused [] = Unit {0}
NoneRefused (n ∷ ns) = NotRefused n × NoneRefused ns

-- "Take two sequences over the same good frame that hold the same puts, replacements and erases, in which calls on one key stand in the same
-- order. If no call of either is refused, every call answers the same and both end frames pack to the same bytes."
abbrev pub AnyOrder : Edition → Type 0
AnyOrder E = (f : List ℕ) (cs ds : List Call) (ns ms : List ℕ) (g h : List ℕ) → Good E f → AllOfBytes E cs → AllOfBytes E ds → SameCalls cs ds
    → Made E f cs ns g → Made E f ds ms h → NoneRefused ns → NoneRefused ms
    → SameAnswers cs ns ds ms × PackAlike E g h
