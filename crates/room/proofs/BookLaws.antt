-- The numbers of a frame through an edit are those of the model: what a row of takes and then a row of frees make of slots, bytes and
-- list lengths, that the model's room is room for each take of the row, and that the state after is the model's. Assumes nothing.
use Prim.Native.Nat.{ℕ, zero, suc, ◌+◌, ◌-◌, ◌*◌, ◌<◌, ◌≤◌}
use mathlib.Core.Path.{◌≡◌, refl, sym, ap, ◌∙◌}
use mathlib.Core.List.{List, [], ◌∷◌, map}
use mathlib.Core.Bool.{true}
use native.Mathlib.Omega.{arith}
use native.Mathlib.Numerals.{add-one}
use native.Mathlib.Decide.{ℕ_discrete}
use lib.ListN.{length, get_or, set, length-set, length-map}
use lib.Seq.{get_or-set_same, get_or-set_other, ext_get_or}
use Rattle.layout.specs.Kind.{body_size, Kind}
use Rattle.model.specs.Tree.{Change}
use Rattle.model.specs.State.{State, total, kinds, tally, fresh_slots, fresh_bytes, room, after}
use Rattle.model.specs.Item.{Item}
use Rattle.model.specs.Frame.{Numbers, View, Root, root_art, view_of, state_of}
use Rattle.room.specs.View.{list_of, popped, given, taken_from, taken, Roomy, released}
use Rattle.room.specs.Book.{have, taken_all, needed, slots_for, bytes_for, RoomFor, Kinds, nil, cons}
use Rattle.room.proofs.FitLaws.{nine, kinds_at, tally_same, tally_other, true_both}

-- ---- how many bodies of a kind are free

pub map_at : (ls : List (List (ℕ × ℕ))) (i : ℕ) → get_or (map length ls) i 0 ≡ length (get_or ls i [])
map_at [] zero = refl
map_at [] (suc i) = refl
map_at (l ∷ ls) zero = refl
map_at (l ∷ ls) (suc i) = map_at ls i

pub have_at : (h : View) (j i : ℕ) → j ≡ i + 1 → have h j ≡ length (get_or h.lists i [])
unfolding have
have_at h j i e = rw (e, add-one i) (map_at h.lists i)

pub have_lists : (h h' : View) → h'.lists ≡ h.lists → (j : ℕ) → have h' j ≡ have h j
unfolding have
have_lists h h' e j = rw e refl

have_zero : (h : View) → have h 0 ≡ 0
unfolding have
have_zero h = refl

-- one list is exchanged
module _ (h h' : View) (k : ℕ) (l : List (ℕ × ℕ)) (k1 : 1 ≤ k) (e : h'.lists ≡ set h.lists (k - 1) l) where
  set_other : (j : ℕ) → (j ≡ k → ⊥) → have h' j ≡ have h j
  set_other j n = elim (ℕ_discrete j 0) [
    | yes z ↦ rw z (have_zero h' ∙ sym (have_zero h))
    | no z ↦
        have_at h' j (j - 1) (omega arith) ∙ ap (λ ls. length (get_or ls (j - 1) [])) e
        ∙ ap length (get_or-set_other h.lists (k - 1) (j - 1) l [] (λ y. n (omega arith))) ∙ sym (have_at h j (j - 1) (omega arith))
  ]

  set_same : k ≤ length h.lists → have h' k ≡ length l
  set_same k8 = have_at h' k (k - 1) (omega arith) ∙ ap (λ ls. length (get_or ls (k - 1) [])) e ∙ ap length (get_or-set_same h.lists (k - 1) l [] (omega arith))

-- ---- sums over the kinds

sum_off : (g d : ℕ → ℕ) (k : ℕ) → ((j : ℕ) → (j ≡ k → ⊥) → g j ≡ d j) → (ks : List ℕ) → tally ks k ≡ 0 → total (map g ks) ≡ total (map d ks)
sum_off g d k h [] e = refl
sum_off g d k h (x ∷ xs) e = elim (ℕ_discrete x k) [
  | yes z ↦ absurd (omega (arith, tally_same k xs, ap (λ y. tally (y ∷ xs) k) z))
  | no z ↦ omega (arith, h x z, sum_off g d k h xs (sym (tally_other x k xs (λ y. z (sym y))) ∙ e))
]

sum_one : (g d : ℕ → ℕ) (k c : ℕ) → ((j : ℕ) → (j ≡ k → ⊥) → g j ≡ d j) → g k ≡ d k + c → (ks : List ℕ) → tally ks k ≡ 1 → total (map g ks) ≡ total (map d ks) + c
sum_one g d k c h e [] t = absurd (omega arith)
sum_one g d k c h e (x ∷ xs) t = elim (ℕ_discrete x k) [
  | yes z ↦ omega (arith, e, ap g z, ap d z, sum_off g d k h xs (omega (arith, tally_same k xs, ap (λ y. tally (y ∷ xs) k) z)))
  | no z ↦ omega (arith, h x z, sum_one g d k c h e xs (sym (tally_other x k xs (λ y. z (sym y))) ∙ t))
]

-- two tables that differ at one kind
sum_kinds : (g d : ℕ → ℕ) (k c : ℕ) → k ≤ 8 → ((j : ℕ) → (j ≡ k → ⊥) → g j ≡ d j) → g k ≡ d k + c → total (map g kinds) ≡ total (map d kinds) + c
sum_kinds g d k c l h e = sum_one g d k c h e kinds (nine (λ j. tally kinds j ≡ 1) refl refl refl refl refl refl refl refl refl k (omega arith))

sum_zeros : (g : ℕ → ℕ) → ((j : ℕ) → g j ≡ 0) → total (map g kinds) ≡ 0
sum_zeros g h = omega (arith, h 0, h 1, h 2, h 3, h 4, h 5, h 6, h 7, h 8)

-- ---- one take

-- what taking and freeing leave of a frame's numbers
pub record Held (n n' : Numbers) : Type 0 where
  pub edition : n'.edition ≡ n.edition
  pub F : n'.F ≡ n.F
  pub N : n'.N ≡ n.N
  pub R : n'.R ≡ n.R
  pub X : n'.X ≡ n.X
  pub root : n'.root ≡ n.root

held_none : (n : Numbers) → Held n n
held_none n = record { edition = refl; F = refl; N = refl; R = refl; X = refl; root = refl }

held_then : {n m k : Numbers} → Held n m → Held m k → Held n k
held_then A B = record { edition = B.edition ∙ A.edition; F = B.F ∙ A.F; N = B.N ∙ A.N; R = B.R ∙ A.R; X = B.X ∙ A.X; root = B.root ∙ A.root }

pub record OneTake (h h' : View) (k : ℕ) : Type 0 where
  pub other : (j : ℕ) → (j ≡ k → ⊥) → have h' j ≡ have h j
  pub same : have h' k ≡ have h k - 1
  pub none : have h k ≡ 0 → (h'.nums.U ≡ h.nums.U + 1) × (h'.nums.B ≡ h.nums.B + body_size k)
  pub some : 1 ≤ have h k → (h'.nums.U ≡ h.nums.U) × (h'.nums.B ≡ h.nums.B)
  pub held : Held h.nums h'.nums
  pub eight : length h'.lists ≡ 8

one_take : (h : View) (k : ℕ) (l : List (ℕ × ℕ)) → 1 ≤ k → k ≤ 8 → length h.lists ≡ 8 → list_of h k ≡ l → OneTake h (taken_from h k l) k
unfolding taken_from
one_take h k [] k1 k8 e8 L =
    let e : have h k ≡ 0 = have_at h k (k - 1) (omega arith) ∙ ap length L in
    record {
      other = λ j n. have_lists h (given h k) refl j;
      same = have_lists h (given h k) refl k ∙ omega arith;
      none = λ z. (refl, refl);
      some = λ z. absurd (omega arith);
      held = record { edition = refl; F = refl; N = refl; R = refl; X = refl; root = refl };
      eight = e8;
    }
one_take h k (x ∷ r) k1 k8 e8 L =
    let e : have h k ≡ suc (length r) = have_at h k (k - 1) (omega arith) ∙ ap length L in
    record {
      other = set_other h (popped h k x r) k r k1 refl;
      same = omega (arith, set_same h (popped h k x r) k r k1 refl (omega arith));
      none = λ z. absurd (omega arith);
      some = λ z. (refl, refl);
      held = held_none h.nums;
      eight = length-set h.lists (k - 1) r ∙ e8;
    }

pub take_one : (h : View) (k : ℕ) → Kind k → length h.lists ≡ 8 → OneTake h (taken h k) k
take_one h k K e8 = one_take h k (list_of h k) K.0 K.1 e8 refl

-- ---- a row of takes

times_suc : (x y m : ℕ) → x ≡ y + 1 → x * m ≡ y * m + m
times_suc x y m e = rw e (omega arith)

module _ {h h' : View} {k : ℕ} (T : OneTake h h' k) (k8 : k ≤ 8) (ks : List ℕ) where
  need_other : (j : ℕ) → (j ≡ k → ⊥) → needed h (k ∷ ks) j ≡ needed h' ks j
  need_other j n = omega (arith, tally_other k j ks n, T.other j n)

  pub next_slots : slots_for h (k ∷ ks) ≡ slots_for h' ks + (1 - have h k)
  unfolding slots_for
  next_slots = sum_kinds (needed h (k ∷ ks)) (needed h' ks) k (1 - have h k) k8 need_other (omega (arith, tally_same k ks, T.same))

  pub next_bytes_none : have h k ≡ 0 → bytes_for h (k ∷ ks) ≡ bytes_for h' ks + body_size k
  unfolding bytes_for
  next_bytes_none z =
      sum_kinds (λ j. needed h (k ∷ ks) j * body_size j) (λ j. needed h' ks j * body_size j) k (body_size k) k8
      (λ j n. ap (λ m. m * body_size j) (need_other j n))
      (times_suc (needed h (k ∷ ks) k) (needed h' ks k) (body_size k) (omega (arith, tally_same k ks, T.same)))

  pub next_bytes_some : 1 ≤ have h k → bytes_for h (k ∷ ks) ≡ bytes_for h' ks + 0
  unfolding bytes_for
  next_bytes_some z =
      sum_kinds (λ j. needed h (k ∷ ks) j * body_size j) (λ j. needed h' ks j * body_size j) k 0 k8
      (λ j n. ap (λ m. m * body_size j) (need_other j n))
      (let e : needed h (k ∷ ks) k ≡ needed h' ks k = omega (arith, tally_same k ks, T.same) in rw e (omega arith))

-- what a row of takes leaves
pub record Row (h h' : View) (ks : List ℕ) : Type 0 where
  pub U : h'.nums.U ≡ h.nums.U + slots_for h ks
  pub B : h'.nums.B ≡ h.nums.B + bytes_for h ks
  pub free : (j : ℕ) → have h' j ≡ have h j - tally ks j
  pub held : Held h.nums h'.nums
  pub eight : length h'.lists ≡ 8

zero_sub : (x : ℕ) → 0 - x ≡ 0
zero_sub x = omega arith

zero_times : (x m : ℕ) → x ≡ 0 → x * m ≡ 0
zero_times x m e = rw e (omega arith)

slots_none : (h : View) → slots_for h [] ≡ 0
unfolding slots_for
slots_none h = sum_zeros (needed h []) (λ j. zero_sub (have h j))

bytes_none : (h : View) → bytes_for h [] ≡ 0
unfolding bytes_for
bytes_none h = sum_zeros (λ j. needed h [] j * body_size j) (λ j. zero_times (0 - have h j) (body_size j) (zero_sub (have h j)))

pub row : (h : View) (ks : List ℕ) → Kinds ks → length h.lists ≡ 8 → Row h (taken_all h ks) ks
unfolding taken_all
row h [] nil e8 = record { U = omega (arith, slots_none h); B = omega (arith, bytes_none h); free = λ j. omega arith; held = held_none h.nums; eight = e8 }
row h (k ∷ ks) (cons K Ks) e8 =
    let T = take_one h k K e8 in
    let R = row (taken h k) ks Ks T.eight in
    record {
      U = elim (ℕ_discrete (have h k) 0) [
        | yes z ↦ omega (arith, R.U, (T.none z).0, next_slots T K.1 ks)
        | no z ↦ omega (arith, R.U, (T.some (omega arith)).0, next_slots T K.1 ks)
      ];
      B = elim (ℕ_discrete (have h k) 0) [
        | yes z ↦ omega (arith, R.B, (T.none z).1, next_bytes_none T K.1 ks z)
        | no z ↦ omega (arith, R.B, (T.some (omega arith)).1, next_bytes_some T K.1 ks (omega arith))
      ];
      free = λ j. elim (ℕ_discrete j k) [
        | yes z ↦ rw z (omega (arith, R.free k, T.same, tally_same k ks))
        | no z ↦ omega (arith, R.free j, T.other j z, tally_other k j ks z)
      ];
      held = held_then T.held R.held;
      eight = R.eight;
    }

-- ---- a row of frees

-- the lists after bodies of these kinds were freed
pub record Gave (h h' : View) (ks : List ℕ) : Type 0 where
  pub free : (j : ℕ) → have h' j ≡ have h j + tally ks j
  pub eight : length h'.lists ≡ 8

pub gave_none : (h : View) → length h.lists ≡ 8 → Gave h h []
gave_none h e8 = record { free = λ j. omega arith; eight = e8 }

pub gave_more : {h h' : View} {ks : List ℕ} (s k o : ℕ) (rest : List Item) → Kind k → Gave h h' ks → Gave h (released h' s k o rest) (k ∷ ks)
gave_more {h} {h'} {ks} s k o rest K G =
    let k1 = K.0 in
    let k8 = K.1 in
    let e8 = G.eight in
    let l : List (ℕ × ℕ) = (s, o) ∷ list_of h' k in
    record {
      free = λ j. elim (ℕ_discrete j k) [
        | yes z ↦
            rw z (
            omega (
              arith,
              set_same h' (released h' s k o rest) k l k1 refl (omega arith),
              have_at h' k (k - 1) (omega arith),
              G.free k,
              tally_same k ks,
            )
            )
        | no z ↦ omega (arith, set_other h' (released h' s k o rest) k l k1 refl j z, G.free j, tally_other k j ks z)
      ];
      eight = length-set h'.lists (k - 1) l ∙ e8;
    }

-- ---- room for each take

pub room_first : (h : View) (k : ℕ) (ks : List ℕ) (x : ℕ) → Kind k → length h.lists ≡ 8 → RoomFor h (k ∷ ks) x → Roomy h k
room_first h k ks x K e8 R L =
    let k1 = K.0 in
    let T = take_one h k K e8 in
    let z : have h k ≡ 0 = have_at h k (k - 1) (omega arith) ∙ ap length L in
    (omega (arith, R.slots, next_slots T K.1 ks), omega (arith, R.bytes, next_bytes_none T K.1 ks z))

pub room_next : (h : View) (k : ℕ) (ks : List ℕ) (x : ℕ) → Kind k → length h.lists ≡ 8 → RoomFor h (k ∷ ks) x → RoomFor (taken h k) ks x
room_next h k ks x K e8 R =
    let T = take_one h k K e8 in
    let H = T.held in
    record {
      slots = elim (ℕ_discrete (have h k) 0) [
        | yes z ↦ omega (arith, R.slots, (T.none z).0, H.N, next_slots T K.1 ks)
        | no z ↦ omega (arith, R.slots, (T.some (omega arith)).0, H.N, next_slots T K.1 ks)
      ];
      bytes = elim (ℕ_discrete (have h k) 0) [
        | yes z ↦ omega (arith, R.bytes, (T.none z).1, H.F, next_bytes_none T K.1 ks z)
        | no z ↦ omega (arith, R.bytes, (T.some (omega arith)).1, H.F, next_bytes_some T K.1 ks (omega arith))
      ];
    }

-- and at the end for the extent
pub room_last : (h : View) (x : ℕ) → RoomFor h [] x → h.nums.B + x ≤ h.nums.F
room_last h x R = omega (arith, R.bytes, bytes_none h)

-- ---- the model's words

module _ (n : Numbers) (ls : List (List (ℕ × ℕ))) (r : Root) where
  model_slots : (ks : List ℕ) → fresh_slots (state_of n ls r) ks ≡ slots_for (view_of n ls r) ks
  unfolding slots_for have
  model_slots ks = refl

  model_bytes : (ks : List ℕ) → fresh_bytes (state_of n ls r) ks ≡ bytes_for (view_of n ls r) ks
  unfolding bytes_for have
  model_bytes ks = refl

  room_plain : (a b : ℕ) (ks : List ℕ) (e : ℕ) → a ≡ slots_for (view_of n ls r) ks → b ≡ bytes_for (view_of n ls r) ks → n.U ≤ n.N → n.B ≤ n.F
      → a ≤ n.N - n.U → b + e ≤ n.F - n.B → RoomFor (view_of n ls r) ks e
  room_plain a b ks e ea eb u v p q = record { slots = omega arith; bytes = omega arith }

  pub model_room : {A : Type 0} (c : Change A) → n.U ≤ n.N → n.B ≤ n.F → room (state_of n ls r) c ≡ true → RoomFor (view_of n ls r) c.takes c.extent
  model_room c u b e =
      let s = state_of n ls r in
      let z = true_both (fresh_slots s c.takes) (n.N - n.U) (fresh_bytes s c.takes + c.extent) (n.F - n.B) e in
      room_plain (fresh_slots s c.takes) (fresh_bytes s c.takes) c.takes c.extent (model_slots c.takes) (model_bytes c.takes) u b z.0
      z.1

-- the state after a change
pub book : {A : Type 0} (n n' : Numbers) (ls ls' : List (List (ℕ × ℕ))) (r r' : Root) (c : Change A) → length ls' ≡ 8 → n'.F ≡ n.F → n'.N ≡ n.N
    → n'.B ≡ n.B + bytes_for (view_of n ls r) c.takes + c.extent → n'.U ≡ n.U + slots_for (view_of n ls r) c.takes → n'.X ≡ n.X + c.dead
    → ((j : ℕ) → j < 9 → have (view_of n' ls' r') j ≡ (have (view_of n ls r) j - tally c.takes j) + tally c.frees j)
    → state_of n' ls' r' ≡ after (state_of n ls r) c n'.R (root_art r')
unfolding have
book n n' ls ls' r r' c e8 e_f e_n e_b e_u e_x H =
    let g : ℕ → ℕ = λ k. (get_or (0 ∷ map length ls) k 0 - tally c.takes k) + tally c.frees k in
    let l = length-map ls' length in
    let ef : 0 ∷ map length ls' ≡ map g kinds = ext_get_or 0 (0 ∷ map length ls') (map g kinds) (omega arith) (λ i h. H i (omega arith) ∙ sym (kinds_at g i (omega arith))) in
    let e_b' = e_b ∙ ap (λ x. n.B + x + c.extent) (sym (model_bytes n ls r c.takes)) in
    let e_u' = e_u ∙ ap (λ x. n.U + x) (sym (model_slots n ls r c.takes)) in
    make e_f e_n e_b' e_u' e_x ef
  where
    make : {f f' s s' b b' u u' x x' : ℕ} {fr fr' : List ℕ} → f ≡ f' → s ≡ s' → b ≡ b' → u ≡ u' → x ≡ x' → fr ≡ fr'
        → ◌≡◌ {A = State} (record { F = f; N = s; B = b; U = u; R = n'.R; X = x; free = fr; tree = root_art r' }) (record { F = f'; N = s'; B = b'; U = u'; R = n'.R; X = x'; free = fr'; tree = root_art r' })
    make p1 p2 p3 p4 p5 p6 = rw (p1, p2, p3, p4, p5, p6) refl
