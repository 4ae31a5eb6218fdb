-- What look-up reports of slots: the bound for every lawful edition and for edition 1, the worked paths by one test over the table, and the wrong
-- counters shut out. Assumes nothing.
use Prim.Native.Nat.{ℕ, ◌+◌, ◌≤◌}
use native.Mathlib.Omega.{arith}
use mathlib.Core.Path.{◌≡◌, refl, ap, ◌∙◌}
use mathlib.Core.List.{List, [], ◌∷◌}
use mathlib.Core.Bool.{Bool, true}
use mathlib.Core.Option.{Option, none, some}
use lib.ListN.{length, length-append}
use lib.Dec.{T, eqb, eqb→eq, lit<, lit≤}
use Rattle.layout.proofs.KindLaws.{both, both_left, both_right}
use Rattle.model.specs.Strings.{All, Byte}
use Rattle.model.specs.Edition.{Edition, edition1, Legal, Lawful}
use Rattle.model.specs.Records.{Record}
use Rattle.model.specs.State.{State, formatted}
use Rattle.model.specs.Image.{image, tree_of}
use Rattle.model.specs.Visits.{visits_in}
use Rattle.model.specs.Frame.{Stands, Good, Root, root_art}
use Rattle.model.specs.Touch.{Part, find_at}
use Rattle.model.specs.Promise.{Found, found_of, on_look_up, LookUpPromise}
use Rattle.model.proofs.StringLaws.{eqb_cases}
use Rattle.model.proofs.Edition1.{lawful1}
use Rattle.model.proofs.VisitLaws.{visits_few}
use Rattle.model.proofs.StandsGood.{stands_good}
use Rattle.model.proofs.ImageLaws.{image_state}
use Rattle.model.proofs.PackStands.{image_of_stands}
use Rattle.demands.specs.Slots.{Within, Allowance, Path, made, a, ab, paths, Reported, AllPaths, Slots}
use Rattle.demands.proofs.Theorems.{two1, empty, holds0, legal_a, legal_v, length1024, slots8, v, state0}

-- ---- what a promised look-up of a good frame reports

found_slots : (o : Option Part) (n : ℕ) → (found_of o n).slots ≡ n
found_slots none n = refl
found_slots (some c) n = refl

on_slots : (E : Edition) (r : Root) (k : List ℕ) → E.key_fault k ≡ 0 → (on_look_up E r k).slots ≡ visits_in E (root_art r) k
on_slots E r k z = rw z (found_slots (find_at E r k) (visits_in E (root_art r) k))

slots_are : (E : Edition) (f k : List ℕ) (g : Found) (s : State) → Stands E f s → E.key_fault k ≡ 0 → LookUpPromise E f k g → g.slots ≡ visits_in E s.tree k
slots_are E f k g s w z p =
    let t : s.tree ≡ root_art w.root = ap (λ (x : State). x.tree) w.state in
    ap (λ (x : Found). x.slots) (p.found s w) ∙ on_slots E w.root k z ∙ rw t

-- ---- the bound

few : (E : Edition) → Lawful E → (f k : List ℕ) (g : Found) → All Byte k → LookUpPromise E f k g → Good E f → g.slots ≤ length (E.walked k) + 1
few E L f k g b p h = eqb_cases (E.key_fault k) 0
    (λ t z. rw (slots_are E f k g h.0 h.1 z p) (visits_few L h.0.tree k (stands_good E f h.0 h.1).well (record { passes = z; bytes = b })))
    (λ t n. let e : g.slots ≡ 0 = ap (λ (x : Found). x.slots) (p.found h.0 h.1) ∙ rw t in omega arith)

within : (E : Edition) → Lawful E → Within E
within E L f k g b p = eqb_cases g.number 0
    (λ t z. few E L f k g b p (p.told.good (λ e. omega arith) (λ e. omega arith)))
    (λ t n. eqb_cases g.number 8
    (λ u z. few E L f k g b p (p.told.good (λ e. omega arith) (λ e. omega arith)))
    (λ u m. let e = p.unvisited n m in omega arith))

allowance : Allowance
allowance f k g b p = omega (arith, within edition1 lawful1 f k g b p, length-append k (0 ∷ []))

-- ---- the worked paths

abbrev test : Path → Bool
test p = both (eqb (edition1.key_fault p.key) 0) (eqb (visits_in edition1 (made (formatted 1024 8) p.keys).tree p.key) p.slots)

abbrev every : List Path → Bool
every [] = true
every (p ∷ ps) = both (test p) (every ps)

reported : (p : Path) → T (test p) → Reported p
reported p t f g w h =
    let legal = eqb (edition1.key_fault p.key) 0 in
    slots_are edition1 f p.key g (made (formatted 1024 8) p.keys) w (eqb→eq _ _ (both_left legal _ t)) h ∙ eqb→eq _ _ (both_right legal _ t)

all_reported : (ps : List Path) → T (every ps) → AllPaths Reported ps
all_reported [] t = tt
all_reported (p ∷ ps) t = (reported p (both_left (test p) _ t), all_reported ps (both_right (test p) _ t))

-- ---- a good frame that holds a and ab: Prefix, Node4, two Leaves

abbrev a_ab : List Record
a_ab = record { key = a; value = v } ∷ record { key = ab; value = v } ∷ []

legal_ab : Legal edition1 ab
legal_ab = record { passes = refl; bytes = (lit< tt, (lit< tt, tt)) }

abbrev state2 : State
state2 = image_state 1024 8 (tree_of edition1 a_ab)

holding2 : (f : List ℕ) × Stands edition1 f state2
holding2 = (
  image edition1 1024 8 a_ab,
  image_of_stands lawful1 1024 8 a_ab
      ((record { fore = refl; back = refl; ne = refl; en = refl }, tt), (tt, tt))
      (legal_a, legal_v, (legal_ab, legal_v, tt))
      (record { limits = length1024; cap = slots8; room = lit≤ tt; slots_fit = lit≤ tt; bytes_fit = lit≤ tt }),
)

-- ---- all of it

pub slots : Slots
slots = record {
  within = within;
  allowance = allowance;
  worked = all_reported paths tt;
  absent_uncounted = λ h.
      let p = h empty.0 a (state0, empty.1) legal_a in
      let e : p.0.slots ≡ 1 = slots_are edition1 empty.0 a p.0 state0 empty.1 refl p.1 in
      let n = (two1.look_up empty.0 a p.0 [] legal_a p.1 holds0).absent8.1 refl in
      let z = p.2 n in omega arith;
  last_uncounted = λ h.
      let p = h empty.0 a state0 empty.1 legal_a in
      let e : p.0.slots ≡ 1 = slots_are edition1 empty.0 a p.0 state0 empty.1 refl p.1 in
      let z : p.0.slots + 1 ≡ 1 = p.2 in omega arith;
  tighter = λ h.
      let p = h holding2.0 a (state2, holding2.1) legal_a in
      let e : p.0.slots ≡ 3 = slots_are edition1 holding2.0 a p.0 state2 holding2.1 refl p.1 in
      let z : p.0.slots ≤ 2 = p.2 in omega arith;
}
