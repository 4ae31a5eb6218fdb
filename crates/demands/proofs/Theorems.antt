-- The three demands, any order and what is wiped, met by whatever keeps the promises of an edition, the first or the second, and the wrong stores that this shuts out. Assumes
-- nothing.
use Prim.Native.Nat.{ℕ, ◌+◌, ◌≤◌}
use native.Mathlib.Omega.{arith}
use mathlib.Core.Path.{◌≡◌, refl, sym, ap, ◌∙◌}
use mathlib.Core.List.{List, [], ◌∷◌}
use mathlib.Core.Option.{some}
use mathlib.Core.Logic.{inr}
use lib.ListN.{length, get_or, drop, replicate, length-drop}
use lib.Seq.{length-take-le, get_or-take, get_or-drop}
use lib.Dec.{ltb, eqb, lit<, lit≤}
use Rattle.model.specs.Strings.{has_zero}
use Rattle.model.specs.Edition.{Value, text_of, unstamped, edition1, edition2, edition_of, Legal, LegalValue}
use Rattle.model.specs.Tree.Art.{leaf}
use Rattle.model.specs.Records.{Record}
use Rattle.model.specs.State.{State, replacing, formatted}
use Rattle.model.specs.Image.{image}
use Rattle.model.specs.Frame.{Stands, FrameLength, SlotCapacity}
use Rattle.model.specs.Promise.{LengthOk, Found}
use Rattle.model.specs.Call.{Call, put, replace, on_call, Called}
use Rattle.model.proofs.StringLaws.{bool_cases, clash}
use Rattle.model.proofs.Edition1.{lawful1}
use Rattle.model.proofs.Edition2.{lawful_of}
use Rattle.model.proofs.TextLaws.{all_zeros}
use Rattle.model.proofs.FormatLaws.{empty_stands}
use Rattle.model.proofs.ImageLaws.{image_state}
use Rattle.model.proofs.PackStands.{image_of_stands}
use Rattle.model.proofs.StandsGood.{stands_heads}
use Rattle.model.proofs.WorkedLaws.{called_stands}
use Rattle.demands.specs.Words.{NotRefused, Holds}
use Rattle.demands.specs.Demands.{Demand1, Demand2, Demand3}
use Rattle.demands.specs.AnyOrder.{AnyOrder}
use Rattle.demands.specs.WrongStores.{LeavesThose, Counters, ShutOut}
use Rattle.demands.specs.Wiped.{Wiped}
use Rattle.demands.proofs.FirstLaws.{key_given}
use Rattle.demands.proofs.Refusals.{demand1}
use Rattle.demands.proofs.Sets.{demand2}
use Rattle.demands.proofs.WipedLaws.{wiped_all}
use Rattle.demands.proofs.Orders.{demand3}
use Rattle.demands.proofs.AnyOrderLaws.{any_order}

-- ---- the demands, of both editions

pub faults1 : (k : List ℕ) → edition1.key_fault k ≤ 7
faults1 k = bool_cases (eqb (length k) 0)
    (λ t. rw t (lit≤ tt))
    (λ t. bool_cases (ltb 112 (length k)) (λ u. rw (t, u) (lit≤ tt)) (λ u. bool_cases (has_zero k) (λ w. rw (t, u, w) (lit≤ tt)) (λ w. rw (t, u, w) (lit≤ tt))))

faults2 : (k : List ℕ) → edition2.key_fault k ≤ 7
faults2 k = bool_cases (eqb (length k) 0) (λ t. rw t (lit≤ tt)) (λ t. bool_cases (ltb 255 (length k)) (λ u. rw (t, u) (lit≤ tt)) (λ u. rw (t, u) (lit≤ tt)))

module _ (ed : ℕ) where
  pub faults : (k : List ℕ) → (edition_of ed).key_fault k ≤ 7
  unfolding edition_of
  faults = bool_cases (eqb ed 2) (λ t. rw t faults2) (λ t. rw t faults1)

  pub one : Demand1 (edition_of ed)
  one = demand1 (lawful_of ed) (key_given ed)

  pub two : Demand2 (edition_of ed)
  two = demand2 (lawful_of ed) faults

  pub three : Demand3 (edition_of ed)
  three = demand3 (lawful_of ed) faults

  pub demands : Demand1 (edition_of ed) × Demand2 (edition_of ed) × Demand3 (edition_of ed)
  demands = (one, two, three)

  pub wiped : Wiped (edition_of ed)
  unfolding edition_of
  wiped = wiped_all (lawful_of ed) (bool_cases (eqb ed 2) (λ t. rw t refl) (λ t. rw t refl))

  pub in_any_order : AnyOrder (edition_of ed)
  in_any_order = any_order (lawful_of ed) faults

-- of edition 1, by which the wrong stores are shut out
pub two1 : Demand2 edition1
two1 = demand2 lawful1 faults1

three1 : Demand3 edition1
three1 = demand3 lawful1 faults1

wiped1 : Wiped edition1
wiped1 = wiped_all lawful1 refl

-- ---- good frames of F 1,024 and N 8: W1, the packed image of a=1, and one that is full

abbrev pub a : List ℕ
a = 97 ∷ []

abbrev b : List ℕ
b = 98 ∷ []

abbrev pub v : Value
v = unstamped (49 ∷ [])

abbrev w : Value
w = unstamped (50 ∷ [])

abbrev ww : Value
ww = unstamped (50 ∷ 50 ∷ [])

abbrev a1 : List Record
a1 = record { key = a; value = v } ∷ []

abbrev a2 : List Record
a2 = record { key = a; value = w } ∷ []

-- the first byte of the first value
abbrev told : List Record → ℕ
told [] = 0
told (r ∷ rs) = get_or (text_of r.value) 0 0

abbrev pub state0 : State
state0 = formatted 1024 8

abbrev state1 : State
state1 = image_state 1024 8 (some (leaf a v))

pub legal_a : Legal edition1 a
legal_a = record { passes = refl; bytes = (lit< tt, tt) }

legal_b : Legal edition1 b
legal_b = record { passes = refl; bytes = (lit< tt, tt) }

pub legal_v : LegalValue edition1 v
legal_v = record { passes = lit≤ tt; bytes = (lit< tt, tt); stamp = lit< tt }

legal_w : LegalValue edition1 w
legal_w = record { passes = lit≤ tt; bytes = (lit< tt, tt); stamp = lit< tt }

legal_ww : LegalValue edition1 ww
legal_ww = record { passes = lit≤ tt; bytes = (lit< tt, (lit< tt, tt)); stamp = lit< tt }

pub length1024 : FrameLength 1024
length1024 = (refl, lit≤ tt, lit≤ tt)

pub slots8 : SlotCapacity 8
slots8 = (refl, lit≤ tt, lit≤ tt)

pub empty : (f : List ℕ) × Stands edition1 f state0
empty = (image edition1 1024 8 [], empty_stands edition1 1024 8 lawful1.fields.number length1024 slots8 (lit≤ tt))

holding : (f : List ℕ) × Stands edition1 f state1
holding = (
  image edition1 1024 8 a1,
  image_of_stands lawful1 1024 8 a1 (tt, tt) (legal_a, legal_v, tt) (record { limits = length1024; cap = slots8; room = lit≤ tt; slots_fit = lit≤ tt; bytes_fit = lit≤ tt }),
)

-- full to the last byte, by one value
abbrev long : Value
long = unstamped (replicate 911 0)

abbrev a3 : List Record
a3 = record { key = a; value = long } ∷ []

abbrev state3 : State
state3 = image_state 1024 8 (some (leaf a long))

legal_long : LegalValue edition1 long
legal_long = record { passes = lit≤ tt; bytes = all_zeros 911; stamp = lit< tt }

filled : (f : List ℕ) × Stands edition1 f state3
filled = (
  image edition1 1024 8 a3,
  image_of_stands lawful1 1024 8 a3 (tt, tt) (legal_a, legal_long, tt) (record { limits = length1024; cap = slots8; room = lit≤ tt; slots_fit = lit≤ tt; bytes_fit = lit≤ tt }),
)

pub holds0 : Holds edition1 empty.0 []
holds0 = record { state = state0; stands = empty.1; set = refl }

holds1 : Holds edition1 holding.0 a1
holds1 = record { state = state1; stands = holding.1; set = refl }

not0 : (n : ℕ) → n ≡ 0 → NotRefused n
not0 n e r = clash (let z = rw e at r in cc)

-- ---- the wrong stores

settled : (f : List ℕ) (c : Call) (n : ℕ) (f' : List ℕ) (s : State) → Stands edition1 f s → Called edition1 f c n f'
    → let t = (on_call edition1 s c).state in Counters f' t.U t.B t.R t.X
settled f c n f' s w p =
    let H = stands_heads edition1 f' (on_call edition1 s c).state (called_stands edition1 f c n f' s w p).1 in
    record { slots = H.given_at; bytes = H.bump_at; records = H.records_at; dead = H.dead_at }

leaves_none : (those : List ℕ → Found → ℕ → Type 0) → ((g : Found) → g.long ≡ 1 → those a g g.place) → LeavesThose those → ⊥
leaves_none those first h =
    let f = holding.0 in
    let p = h f a ww v a1 holds1 legal_a legal_ww refl (λ z. omega arith) in
    let g = p.0 in
    let q = two1.look_up f a g a1 legal_a p.3 holds1 in
    let t = (q.there0 v).0 refl in
    let inside = q.within in
    let long : g.long ≡ 1 = sym (length-take-le g.long (drop g.place f) (omega (arith, length-drop g.place f))) ∙ ap length t.1 in
    let n : p.1 ≡ 9 = p.4.answer state1 holding.1 in
    let gone = wiped1.replace replacing f a ww g p.1 p.2 p.3 t.0 p.4 n (λ z. omega arith) g.place (omega arith) (omega arith) in
    let left = p.5 (λ r. clash (let z = rw n at r in cc)) g.place (first g long) in
    let old : get_or (drop g.place f) 0 0 ≡ 49 = sym (get_or-take g.long (drop g.place f) 0 0 (omega arith)) ∙ ap (λ (x : List ℕ). get_or x 0 0) t.1 in
    let at : g.place + 0 ≡ g.place = omega arith in
    let z : ◌≡◌ {A = ℕ} 0 49 = sym gone ∙ left ∙ sym (get_or-drop g.place f 0 0 ∙ ap (λ (i : ℕ). get_or f i 0) at) ∙ old in
    omega arith

pub shut_out : ShutOut
shut_out = record {
  all_two = λ h.
      let f = empty.0 in let H = stands_heads edition1 f state0 empty.1 in
      let ok : LengthOk f = (rw H.size length1024, H.stored ∙ sym H.size) in
      let z = (h f ok).good0 (state0, empty.1) in omega arith;
  all_six = λ h.
      let p = h empty.0 a v (state0, empty.1) legal_a legal_v in
      let z : ◌≡◌ {A = ℕ} 6 0 = p.1.answer state0 empty.1 in omega arith;
  all_eight = λ h.
      let p = h holding.0 a (state1, holding.1) legal_a in
      let z = (two1.look_up holding.0 a _ a1 legal_a p.1 holds1).absent8.0 refl in clash (cc);
  holds_nothing = λ h.
      let p = h empty.0 a v (state0, empty.1) legal_a legal_v in
      let q = two1.change empty.0 (put a v) p.0 p.1 [] (legal_a.bytes, (legal_v.bytes, legal_v.stamp)) p.2 holds0 (not0 p.0 (p.2.answer state0 empty.1)) in
      let z = two1.one p.1 [] a1 p.3 q.0 in clash (cc);
  only_first = λ h.
      let p = h holding.0 b v (record { key = a; value = v }) [] holds1 legal_b legal_v in
      let q = two1.change holding.0 (put b v) 0 holding.0 a1 (legal_b.bytes, (legal_v.bytes, legal_v.stamp)) p holds1 (not0 0 refl) in
      let z : ◌≡◌ {A = ℕ} 1 2 = ap length (two1.one holding.0 a1 _ holds1 q.0) in omega arith;
  overwrites = λ h.
      let p = h holding.0 a w a1 holds1 legal_a legal_w (λ z. clash (cc)) in
      let n : p.0 ≡ 11 = p.2.answer state1 holding.1 in
      let q = two1.change holding.0 (put a w) p.0 p.1 a1 (legal_a.bytes, (legal_w.bytes, legal_w.stamp)) p.2 holds1 (λ r. clash (let z = rw n at r in cc)) in
      let z : ◌≡◌ {A = ℕ} 49 50 = ap told (two1.one p.1 a1 a2 q.0 p.3) in omega arith;
  room_first = λ h.
      let p = h filled.0 a w state3 filled.1 legal_a legal_w (inr (lit≤ tt)) in
      let z : ◌≡◌ {A = ℕ} 6 11 = p.answer state3 filled.1 in omega arith;
  puts_in = λ h.
      let p = h empty.0 a v [] holds0 legal_a legal_v refl in
      let n : p.0 ≡ 8 = p.2.answer state0 empty.1 in
      let q = two1.change empty.0 (replace a v) p.0 p.1 [] (legal_a.bytes, (legal_v.bytes, legal_v.stamp)) p.2 holds0 (λ r. clash (let z = rw n at r in cc)) in
      let z = two1.one p.1 [] a1 q.0 p.3 in clash (cc);
  keeps_old = λ h.
      let p = h holding.0 a w a1 holds1 legal_a legal_w (λ z. clash (cc)) in
      let n : p.0 ≡ 9 = p.2.answer state1 holding.1 in
      let q = two1.change holding.0 (replace a w) p.0 p.1 a1 (legal_a.bytes, (legal_w.bytes, legal_w.stamp)) p.2 holds1 (λ r. clash (let z = rw n at r in cc)) in
      let z : ◌≡◌ {A = ℕ} 49 50 = ap told (two1.one p.1 a1 a2 p.3 q.0) in omega arith;
  fixed_image = λ h.
      let f = empty.0 in let g = holding.0 in
      let H = stands_heads edition1 f state0 empty.1 in let K = stands_heads edition1 g state1 holding.1 in
      let len : length f ≡ length g = H.size ∙ sym K.size in
      let cap = H.slots_at ∙ sym K.slots_at in
      let p = h.1 f f (state0, empty.1) refl in let q = h.1 g g (state1, holding.1) refl in
      let z = (three1.images f g f _ g _ 0 0 [] a1 len cap holds0 holds1 p q (not0 0 refl) (not0 0 refl)).0 (rw (len, cap)) in clash (cc);
  invents = λ h.
      let p = h empty.0 empty.1 in
      p.3 (settled empty.0 (put a v) p.0 p.1 state0 empty.1 p.2);
  leaves_old = leaves_none _ (λ g e. (omega arith, omega arith));
  unit_short = leaves_none _ (λ g e. (omega arith, omega arith));
  settled = settled;
}
