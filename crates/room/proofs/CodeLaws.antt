-- What the code writes is a step of the heap: one law for each exit of a function, and what its calls ask. Assumes nothing.
use Prim.Native.Nat.{ℕ, ◌+◌, ◌-◌, ◌*◌, ◌/◌, ◌<◌, ◌≤◌}
use mathlib.Core.Path.{◌≡◌, refl, sym, ap, ◌∙◌}
use mathlib.Core.List.{List, [], ◌∷◌}
use native.Mathlib.Omega.{arith}
use native.Mathlib.Decide.{ℕ_discrete}
use lib.ListN.{length}
use Rattle.layout.specs.Number.{le, put, byte_at}
use Rattle.layout.specs.Place.{at_b, at_u, at_r, at_x, at_root, at_head, header_size, entry_at}
use Rattle.layout.specs.Kind.{body_size, Kind}
use Rattle.layout.specs.Entry.{entry_of, entry_place, place_of, high_of}
use Rattle.layout.proofs.NumberLaws.{le_put, le_same}
use Rattle.layout.proofs.EntryLaws.{entry_own, place_lt}
use Rattle.model.specs.Tree.{up8}
use Rattle.model.specs.Item.{Item, body, extent, cover, touch, bulk, Same}
use Rattle.model.specs.Frame.{View, Chain, Heap, freed}
use Rattle.model.proofs.ItemLaws.{sum_app, sum_cons}
use Rattle.moves.specs.Moved.{Only, Cleared}
use Rattle.room.specs.View.{list_of, popped, given, taken_from, slot_from, place_from, taken, Roomy, retired, recorded, rooted}
use Rattle.moves.specs.Pasted.{Pasted}
use Rattle.room.specs.Step.{But, Takes, Took, Frees, Freed, Extended, Retires, Died, Renumbered}
use Rattle.moves.proofs.MoveLaws.{only_put, only_then}
use Rattle.room.proofs.HeapLaws.{extent_in, cover_body, cover_extent, body_covers, extent_covers, kept_then, kept_part, lies, any_write}
use Rattle.room.proofs.StepLaws.{Listed, chain_nil, chain_cons, head_in, pop_heap, fresh_heap, free_heap, extend_heap, record_heap, retire_heap, root_heap}

-- ---- take and release

-- the writes of `pop` and of `fresh`, in one
pub pop_writes : (f : List ℕ) {m g : List ℕ} {next p : ℕ} (s k : ℕ) → next ≡ high_of f s → p ≡ place_of f s → m ≡ put 2 f (at_head k) next → g ≡ put 4 m (entry_at s) (entry_of k p)
    → g ≡ put 4 (put 2 f (at_head k) (high_of f s)) (entry_at s) (entry_of k (place_of f s))
pop_writes f s k en ep em eg = rw (eg, em, en, ep) refl

pub fresh_writes : (f : List ℕ) {m l g : List ℕ} {u o n : ℕ} (k : ℕ) → u ≡ le 4 f at_u → o ≡ le 4 f at_b → n ≡ body_size k → m ≡ put 4 f at_u (u + 1) → l ≡ put 4 m at_b (o + n)
    → g ≡ put 4 l (entry_at (u + 1)) (entry_of k o)
    → (u + 1 ≡ le 4 f at_u + 1) × (g ≡ put 4 (put 4 (put 4 f at_u (u + 1)) at_b (le 4 f at_b + body_size k)) (entry_at (u + 1)) (entry_of k (le 4 f at_b)))
fresh_writes f k eu eo en em el eg = (ap (λ x. x + 1) eu, rw (eg, el, em, en, ← eo) refl)

-- the list of a kind
pub chain_of : {f : List ℕ} {h : View} (k : ℕ) → Heap f h → 1 ≤ k → k ≤ 8 → Chain f (le 2 f (at_head k)) (list_of h k)
chain_of k P k1 k8 = let e : at_head (k - 1 + 1) ≡ at_head k = omega arith in rw (← e) (P.lists.chains (k - 1) (omega arith))

module _ {f : List ℕ} {h : View} (k : ℕ) (P : Heap f h) (K : Kind k) where
  list_none : le 2 f (at_head k) ≡ 0 → list_of h k ≡ []
  list_none e =
      let C : Chain f (le 2 f (at_head k)) (list_of h k) = chain_of k P K.0 K.1 in
      chain_nil f (list_of h k) (rw e at C) (λ x r z. (head_in k x r P K.0 K.1 z).0)

  list_some : {s : ℕ} → s ≡ le 2 f (at_head k) → (s ≡ 0 → ⊥) → (x : ℕ × ℕ) × (r : List (ℕ × ℕ)) × (list_of h k ≡ x ∷ r) × (s ≡ x.0) × (1 ≤ s) × (s ≤ h.nums.U)
  list_some {s} e n =
      let c = chain_cons f (le 2 f (at_head k)) (list_of h k) (chain_of k P K.0 K.1) (omega arith) in
      let I = head_in k c.0 c.1 P K.0 K.1 c.2 in
      let e' : s ≡ c.0.0 = e ∙ c.3 in
      (c.0, c.1, c.2, e', omega arith, omega (arith, I.1))

  -- the head of a list fits a link
  pub head_fits : le 2 f (at_head k) ≤ 10240
  head_fits = elim (ℕ_discrete (le 2 f (at_head k)) 0) [
    | yes z ↦ omega arith
    | no z ↦ let c = list_some refl z in omega (arith, c.5, P.header.given_in, P.header.slot_cap)
  ]

  -- which of the two a body is
  as_given : {g : List ℕ} → list_of h k ≡ [] → Heap g (given h k) → Heap g (taken h k)
  unfolding taken_from
  as_given L G = rw L G

  given_slot : list_of h k ≡ [] → slot_from h (list_of h k) ≡ h.nums.U + 1
  unfolding slot_from
  given_slot L = rw L refl

  given_place : list_of h k ≡ [] → place_from h (list_of h k) ≡ h.nums.B
  unfolding place_from
  given_place L = rw L refl

  as_popped : {g : List ℕ} (x : ℕ × ℕ) (r : List (ℕ × ℕ)) → list_of h k ≡ x ∷ r → Heap g (popped h k x r) → Heap g (taken h k)
  unfolding taken_from
  as_popped x r L G = rw L G

  popped_slot : (x : ℕ × ℕ) (r : List (ℕ × ℕ)) → list_of h k ≡ x ∷ r → slot_from h (list_of h k) ≡ x.0
  unfolding slot_from
  popped_slot x r L = rw L refl

  popped_place : (x : ℕ × ℕ) (r : List (ℕ × ℕ)) → list_of h k ≡ x ∷ r → place_from h (list_of h k) ≡ x.1
  unfolding place_from
  popped_place x r L = rw L refl

  pub take_fresh : {g : List ℕ} {r : ℕ} → Roomy h k → le 2 f (at_head k) ≡ 0 → r ≡ le 4 f at_u + 1
      → g ≡ put 4 (put 4 (put 4 f at_u r) at_b (le 4 f at_b + body_size k)) (entry_at r) (entry_of k (le 4 f at_b)) → Took f g h k r
  take_fresh {g} {r} R e er eg =
      let L = list_none e in
      let H = P.header in
      let k8 = K.1 in
      let gi = H.given_in in
      let bi = H.bump_in in
      let li = H.limits in
      let cp = H.slot_cap in
      let R' = R L in
      let u = H.given_at in
      let b = H.bump_at in
      let s = H.size in
      let v = le 4 f at_b + body_size k in
      let f1 = put 4 f at_u r in
      let f2 = put 4 f1 at_b v in
      let O1 = only_put 4 f at_u r in
      let O2 = only_put 4 f1 at_b v in
      let s1 = O1.size in
      let s2 = O2.size in
      let er' : r ≡ h.nums.U + 1 = omega arith in
      let lr : r < 4294967296 = omega arith in
      let lv : v < 4294967296 = omega arith in
      let O3 = only_put 4 f2 (entry_at r) (entry_of k (le 4 f at_b)) in
      let E3 = entry_own f2 r k (le 4 f at_b) (omega arith) (omega arith) (omega arith) in
      let Z = fresh_heap {g = put 4 f2 (entry_at r) (entry_of k (le 4 f at_b))} k P K R'
      O1 (le_put 4 f at_u r (omega arith) lr ∙ er') O2 (le_put 4 f1 at_b v (omega arith) lv ∙ ap (λ n. n + body_size k) b)
      (rw (← er') O3) (rw (← er', ← b) E3) in
      rw eg (record {
        heap = as_given L Z.0;
        slot = er' ∙ sym (given_slot L);
        entry = rw (given_place L, er') (rw er' at Z.1);
        but = rw er' (rw er' at Z.2);
        kept = Z.3;
      })

  pop_at : {g : List ℕ} (s : ℕ) (x : ℕ × ℕ) (r : List (ℕ × ℕ)) → list_of h k ≡ x ∷ r → s ≡ x.0 → s ≤ h.nums.U → high_of f s < 32768
      → g ≡ put 4 (put 2 f (at_head k) (high_of f s)) (entry_at s) (entry_of k (place_of f s)) → Took f g h k s
  pop_at {g} s x r L es u l eg =
      let H = P.header in
      let gi = H.given_in in
      let bi = H.bump_in in
      let z = H.size in
      let k8 = K.1 in
      let t = x.0 in
      let v = high_of f t in
      let l' : v < 65536 = omega (arith, rw es at l) in
      let f1 = put 2 f (at_head k) v in
      let O1 = only_put 2 f (at_head k) v in
      let s1 = O1.size in
      let O2 = only_put 4 f1 (entry_at t) (entry_of k (place_of f t)) in
      let E2 = entry_own f1 t k (place_of f t) (omega arith) (omega arith) (place_lt (le 4 f (entry_at t))) in
      let Z = pop_heap {g = put 4 f1 (entry_at t) (entry_of k (place_of f t))} k x r P K L O1 (le_put 2 f (at_head k) v (omega arith) l') O2 E2 in
      rw (eg, es) (record {
        heap = as_popped x r L Z.0;
        slot = sym (popped_slot x r L);
        entry = rw (popped_place x r L) Z.1;
        but = Z.2;
        kept = Z.3;
      })

  pub take_pop : {g : List ℕ} {s : ℕ} → s ≡ le 2 f (at_head k) → (s ≡ 0 → ⊥) → high_of f s < 32768
      → g ≡ put 4 (put 2 f (at_head k) (high_of f s)) (entry_at s) (entry_of k (place_of f s)) → Took f g h k s
  take_pop {g} {s} e n l eg = let c = list_some e n in pop_at s c.0 c.1 c.2 c.3 c.5 l eg

  -- the body is zero already
  listed_law : {m g : List ℕ} {next p : ℕ} (s o : ℕ) (rest : List Item) → Same h.owned (body s k o ∷ rest) → place_of f s ≡ o → next ≡ le 2 f (at_head k)
      → p ≡ place_of f s → m ≡ put 4 f (entry_at s) (entry_of next p) → g ≡ put 2 m (at_head k) s → ((a : ℕ) → 1 ≤ cover a (body s k o) → byte_at f a ≡ 0) → Listed f g h s k o rest
  listed_law {m} {g} s o rest own eo en ep em eg Z =
      let H = P.header in
      let k1 = K.0 in
      let k8 = K.1 in
      let I = lies s k o rest P own k1 k8 in
      let ih = I.high in
      let gi = H.given_in in
      let bi = H.bump_in in
      let cp = H.slot_cap in
      let z = H.size in
      let hf = head_fits in
      let next = le 2 f (at_head k) in
      let f1 = put 4 f (entry_at s) (entry_of next (place_of f s)) in
      let O1 = only_put 4 f (entry_at s) (entry_of next (place_of f s)) in
      let s1 = O1.size in
      let l : s < 65536 = omega arith in
      rw (eg, em, ep, en) (free_heap s k o rest P K own eo O1 (entry_own f s next (place_of f s) (omega arith) (omega arith) (place_lt (le 4 f (entry_at s))))
      (only_put 2 f1 (at_head k) s) (le_put 2 f1 (at_head k) s (omega arith) l) Z)

-- the body is wiped, and then listed
pub release_law : {f w m g : List ℕ} {h : View} {next p n : ℕ} (k : ℕ) → Heap f h → Kind k → (s o : ℕ) (rest : List Item) → Same h.owned (body s k o ∷ rest) → place_of f s ≡ o → next ≡ le 2 f (at_head k)
    → p ≡ place_of f s → n ≡ body_size k → Cleared f w p n → m ≡ put 4 w (entry_at s) (entry_of next p) → g ≡ put 2 m (at_head k) s → Freed f g h s k o rest
release_law {f} {w} {m} {g} {h} k P K s o rest own eo en ep es Y em eg =
    let Y' : Cleared f w o (body_size k) = rw (ep ∙ eo, es) at Y in
    let W = any_write (body s k o) rest P own Y'.rest (λ a l u. cover_body a s k o l u) in
    let I = lies s k o rest P own K.0 K.1 in
    let it = I.table in
    let bi = P.header.bump_in in
    let e : le 4 w (entry_at s) ≡ le 4 f (entry_at s) = le_same 4 w f (entry_at s) (λ a l u. W.low a (omega arith)) in
    let q : place_of w s ≡ place_of f s = ap entry_place e in
    let r : le 2 w (at_head k) ≡ le 2 f (at_head k) = le_same 2 w f (at_head k) (λ a l u. W.low a (omega (arith, K.1))) in
    let L = listed_law k W.heap K s o rest own (q ∙ eo) (en ∙ sym r) (ep ∙ sym q) em eg (λ a c. let i = body_covers a s k o c in Y'.zeros a i.0 i.1) in
    record { heap = L.heap; middle = w; wiped = Y'.rest; but = L.but; kept = kept_then W.kept L.kept }

-- ---- extend, retire, set_records, set_root

bulk_extent : (o n : ℕ) → bulk (extent o n) ≡ n
unfolding bulk
bulk_extent o n = refl

but_at : {f g : List ℕ} {lo hi lo' hi' : ℕ} → But f g lo hi → lo ≡ lo' → hi ≡ hi' → But f g lo' hi'
but_at B p q = rw (← p, ← q) B

module _ {f : List ℕ} {h : View} (P : Heap f h) where
  pub long : 1024 ≤ length f
  long = omega (arith, P.header.size, P.header.limits)

  -- what dies was given out below B
  dead_fits : (o n : ℕ) (rest : List Item) → Same h.owned (extent o n ∷ rest) → h.nums.X + n ≤ 524288
  dead_fits o n rest own =
      omega (
        arith,
        P.sound.accounted,
        sum_app bulk h.owned (freed 1 h.lists),
        own bulk,
        sum_cons bulk (extent o n) rest,
        bulk_extent o n,
        P.header.bump_in,
        P.header.limits,
      )

  -- the extent is zero already
  dead_law : {g : List ℕ} {x : ℕ} (o n : ℕ) (rest : List Item) → Same h.owned (extent o n ∷ rest) → x ≡ le 4 f at_x → g ≡ put 4 f at_x (x + n) → ((a : ℕ) → 1 ≤ cover a (extent o n) → byte_at f a ≡ 0)
      → Renumbered f g h (retired h n rest)
  dead_law {g} {x} o n rest own ex eg Z =
      let l = long in
      let e : x + n ≡ h.nums.X + n = ap (λ m. m + n) (ex ∙ P.header.dead_at) in
      let b : x + n < 4294967296 = omega (arith, dead_fits o n rest own) in
      rw eg (retire_heap P o n rest own (only_put 4 f at_x (x + n)) (le_put 4 f at_x (x + n) (omega arith) b ∙ e) Z)

  pub records_law : {g : List ℕ} (r : ℕ) → r < 4294967296 → g ≡ put 4 f at_r r → Renumbered f g h (recorded h r)
  records_law r b eg = let l = long in rw eg (record_heap P r (only_put 4 f at_r r) (le_put 4 f at_r r (omega arith) b))

  pub root_law : {g : List ℕ} (s : ℕ) → s < 65536 → g ≡ put 2 f at_root s → Renumbered f g h (rooted h s)
  root_law s b eg = let l = long in rw eg (root_heap P s (only_put 2 f at_root s) (le_put 2 f at_root s (omega arith) b))

  pub extend_law : {m m' g : List ℕ} {size : ℕ} (k v : List ℕ) (e : ℕ) → h.nums.B + up8 (length k + length v) ≤ h.nums.F → e ≡ le 4 f at_b → Pasted f m e (length k) k
      → Pasted m m' (e + length k) (length v) v → size ≡ up8 (length k + length v) → g ≡ put 4 m' at_b (e + size) → Extended f g h k v e
  extend_law {m} {m'} {g} k v e R ee A B es eg =
      let H = P.header in
      let bi = H.bump_in in
      let li = H.limits in
      let z = H.size in
      let n = (length k + length v + 7) / 8 in
      let q : length k + length v ≤ n * 8 = omega arith in
      let eb : e ≡ h.nums.B = ee ∙ H.bump_at in
      let w = e + n * 8 in
      let sa = A.only.size in
      let sb = B.only.size in
      let lw : w < 4294967296 = omega arith in
      let O : Only f m' h.nums.B (h.nums.B + n * 8) =
      only_then h.nums.B (h.nums.B + n * 8) A.only B.only (omega arith) (omega arith) (omega arith) (omega arith) in
      let T = only_put 4 m' at_b w in
      let Z = extend_heap (n * 8) P (omega arith) R O T (le_put 4 m' at_b w (omega arith) lw ∙ ap (λ b. b + n * 8) eb) in
      rw (eg, es) (record {
        place = eb;
        heap = Z.0;
        key = λ a i l ea. T.above a (omega arith) ∙ B.only.below a (omega arith) ∙ A.text a i l ea;
        value = λ a i l ea. T.above a (omega arith) ∙ B.text a i l ea;
        but = but_at Z.1 (sym eb) (ap (λ b. b + n * 8) (sym eb));
        kept = Z.2;
      })

-- the extent is wiped, and then X grows
pub retire_law : {f w g : List ℕ} {h : View} {x : ℕ} → Heap f h → (o n : ℕ) (rest : List Item) → Same h.owned (extent o n ∷ rest) → Cleared f w o n → x ≡ le 4 w at_x → g ≡ put 4 w at_x (x + n)
    → Died f g h o n rest
retire_law {f} {w} {g} {h} P o n rest own Y ex eg =
    let W = any_write (extent o n) rest P own Y.rest (λ a l u. cover_extent a o n l u) in
    let L = dead_law W.heap o n rest own ex eg (λ a c. let i = extent_covers a o n c in Y.zeros a i.0 i.1) in
    record { heap = L.heap; middle = w; wiped = Y.rest; but = L.but; kept = kept_then W.kept (kept_part rest L.kept (λ a. omega (arith, own (touch a), sum_cons (touch a) (extent o n) rest))) }

-- ---- what the calls ask

pub fresh_ok : {f : List ℕ} {k : ℕ} → Takes f k → le 2 f (at_head k) ≡ 0 → (entry_at (le 4 f at_u + 1) + 4 ≤ length f) × (le 4 f at_b + body_size k ≤ 524288)
fresh_ok {f} {k} T e =
    let P = T.heap in
    let H = P.header in
    let R = T.room (list_none k P T.kind e) in
    let b = H.bump_in in
    let u = H.given_at in
    let v = H.bump_at in
    let l = H.limits in
    let s = H.size in
    (omega arith, omega arith)

pub pop_ok : {f : List ℕ} {k s : ℕ} → Takes f k → s ≡ le 2 f (at_head k) → (s ≡ 0 → ⊥) → (64 ≤ length f) × (1 ≤ s) × (entry_at s + 4 ≤ length f)
pop_ok {f} {k} {s} T e n =
    let P = T.heap in
    let H = P.header in
    let c = list_some k P T.kind e n in
    let c4 = c.4 in
    let c5 = c.5 in
    let b = H.bump_in in
    let g = H.given_in in
    let z = H.size in
    (omega arith, omega arith, omega arith)

pub release_ok : {f : List ℕ} {s k : ℕ} → Frees f s k → (1 ≤ s) × (entry_at s + 4 ≤ length f) × (le 2 f (at_head k) < 32768) × (place_of f s + body_size k ≤ length f)
release_ok {f} {s} {k} F =
    let P = F.heap in
    let H = P.header in
    let I = lies s k F.place F.rest P F.owns F.kind.0 F.kind.1 in
    let low = I.low in
    let high = I.high in
    let b = H.bump_in in
    let g = H.given_in in
    let z = H.size in
    (omega arith, omega arith, omega (arith, head_fits k P F.kind), omega (arith, F.place_is, I.ends))

pub retire_ok : {f : List ℕ} {o n : ℕ} → Retires f o n → (o + n ≤ length f) × (le 4 f at_x + n ≤ 524288) × (header_size ≤ o)
retire_ok {f} {o} {n} T =
    let P = T.heap in
    let H = P.header in
    let I = extent_in P.sound o n T.rest (λ w. omega (arith, T.owns w, sum_cons w (extent o n) T.rest, sum_app w T.view.owned (freed 1 T.view.lists))) T.some in
    (omega (arith, I.1, H.bump_in, H.size), omega (arith, dead_fits P o n T.rest T.owns, H.dead_at), omega (arith, I.0))

-- X is as it was
pub retire_same : {f w : List ℕ} {o n m : ℕ} → Retires f o n → Cleared f w o m → le 4 w at_x + n ≤ 524288
retire_same {f} {w} {o} T Y = let z = retire_ok T in omega (arith, le_same 4 w f at_x (λ a l u. Y.rest.below a (omega (arith, z.2))))
