-- Where a descent starts, and what its end says of every state that the frame stands for. Assumes nothing.
use Prim.Native.Nat.{ℕ, ◌+◌, ◌≤◌}
use mathlib.Core.Path.{◌≡◌, refl, sym, ap, ◌∙◌}
use mathlib.Core.List.{List, [], ◌∷◌}
use native.Mathlib.Omega.{arith}
use lib.ListN.{length}
use Rattle.layout.specs.Number.{le}
use Rattle.layout.specs.Place.{at_root, entry_at}
use Rattle.layout.specs.Kind.{empty_root_kind}
use Rattle.layout.specs.declared.kind.Kind.TheVariants as kinds
use Rattle.layout.specs.Entry.{place_of, high_of}
use Rattle.model.specs.Edition.{Edition}
use Rattle.model.specs.State.{State}
use Rattle.model.specs.Item.{Item, body, sum}
use Rattle.model.specs.Frame.{Lay, Root, bare, tree, Entry, Tree, RootAt, root_slot, root_items, Numbers, view_of, Heap, Stands}
use Rattle.model.proofs.UniqueLaws.{root_unique}
use Rattle.room.proofs.HeapLaws.{lies}
use Rattle.between.specs.Hole.{plug, Link}
use Rattle.between.proofs.HoleLaws.{plug_none, path_none}
use Rattle.between.proofs.LeadLaws.{leads_start}
use Rattle.descent.specs.declared.spot.End.TheVariants as end
use Rattle.descent.specs.declared.spot.Spot.{Spot}
use Rattle.descent.specs.Spot.{start_at, end_at, SpotAt, Standing, Going, Underway, Ended}
use Rattle.descent.proofs.SeatLaws.{seat}

-- ---- the root's body

record RootSeat (f : List ℕ) (r : Root) : Type 0 where
  low : 1 ≤ root_slot r
  table : entry_at (root_slot r) + 4 ≤ length f
  kinds : (1 ≤ high_of f (root_slot r)) × (high_of f (root_slot r) ≤ 8)
  empty : high_of f (root_slot r) ≡ 8 → r ≡ bare (root_slot r) (place_of f (root_slot r))
  full : (high_of f (root_slot r) ≡ 8 → ⊥) → (l : Lay) × (r ≡ tree l)

bare_sum : (w : Item → ℕ) (s o : ℕ) → sum w (root_items (bare s o)) ≡ sum w (body s empty_root_kind o ∷ [])
unfolding root_items
bare_sum w s o = refl

-- ---- the start

link_root : Link [] at_root
unfolding Link
link_root = refl

-- ---- the end

module _ (E : Edition) where
  bare_entry : (f : List ℕ) (s o : ℕ) → RootAt E f (bare s o) → Entry f s empty_root_kind o
  unfolding RootAt
  bare_entry f s o R = R.0

  root_tree : (f : List ℕ) (l : Lay) → RootAt E f (tree l) → Tree E f [] l
  unfolding RootAt
  root_tree f l R = R

  at_root_lem : {f : List ℕ} (n : Numbers) (ls : List (List (ℕ × ℕ))) (r : Root) → Heap f (view_of n ls r) → RootAt E f r → RootSeat f r
  at_root_lem {f} n ls (bare s o) H R =
      let Y = bare_entry f s o R in
      let L = lies s empty_root_kind o [] H (λ w. bare_sum w s o) (omega arith) (omega arith) in
      let b = H.header.bump_in in
      let z = H.header.size in
      record { low = L.low; table = omega (arith, L.table); kinds = (omega (arith, Y.kind_is), omega (arith, Y.kind_is)); empty = λ q. ap (bare s) (sym Y.place_is); full = λ q. absurd (q Y.kind_is) }
  at_root_lem {f} n ls (tree l) H R =
      let H' : Heap f (view_of n ls (tree (plug [] l))) = rw (plug_none l) H in
      let S = seat E [] [] l H' (root_tree f l R) in
      record { low = S.low; table = S.table; kinds = (omega (arith, S.entry.kind_is, S.kinds.0), omega (arith, S.entry.kind_is, S.kinds.1)); empty = λ q. absurd (omega (arith, S.entry.kind_is, S.kinds.1)); full = λ q. (l, refl) }

  module _ {f : List ℕ} (W : Standing E f) where
    its_slot : le 2 f at_root ≡ root_slot W.stands.root
    its_slot = W.stands.heap.header.root_at ∙ W.stands.root_is

    its_seat : RootSeat f W.stands.root
    its_seat = at_root_lem W.stands.nums W.stands.lists W.stands.root W.stands.heap W.stands.root_at

    pub header_room : 64 ≤ length f
    header_room =
        let H = W.stands.heap.header in
        let l = H.limits in
        omega (arith, H.size)

    pub root_entry : (s : ℕ) → s ≡ le 2 f at_root → (1 ≤ s) × (entry_at s + 4 ≤ length f)
    root_entry s e = let q = its_slot in let S = its_seat in (omega (arith, S.low), omega (arith, S.table))

    -- the kind that its entry says is one
    pub root_kind : {s h : ℕ} → s ≡ le 2 f at_root → h ≡ high_of f s → (1 ≤ h) × (h ≤ 8)
    root_kind {s} e p =
        let q : s ≡ root_slot W.stands.root = e ∙ its_slot in
        let K = its_seat.kinds in
        let y = p ∙ ap (high_of f) q in (omega (arith, K.0, y), omega (arith, K.1, y))

  module _ {f : List ℕ} (k : List ℕ) (W : Standing E f) (s : ℕ) (e : s ≡ le 2 f at_root) where
    from_root : s ≡ root_slot W.stands.root
    from_root = e ∙ its_slot W

    starting : (high_of f s ≡ 8 → ⊥) → Going E f k (start_at s at_root)
    starting n =
        let t = (its_seat W).full (rw (from_root) at n) in
        let l = t.0 in
        record {
          st = W.st;
          stands = W.stands;
          lay = l;
          is = t.1;
          way = record {
            steps = [];
            sub = l;
            rest = E.walked k;
            whole = sym (plug_none l);
            leads = leads_start E k;
            deep = sym (ap length path_none);
            slot_is = sym (from_root ∙ ap root_slot t.1);
            link_is = link_root;
            over = record {
              free = λ y. tt;
              top = λ y. record { without = λ x. tt; capped = λ x. absurd (omega arith); run = λ x. absurd (omega arith) };
              held = λ y. absurd (omega arith);
            };
          };
        }

    pub start_going : (high_of f s ≡ 8 → ⊥) → Underway E f k (start_at s at_root)
    unfolding starting
    start_going n =
        let G = starting n in
        record { going = G; count = record { left = omega arith; few = omega arith; short = omega arith } }

    pub start_empty : (o : ℕ) → high_of f s ≡ 8 → o ≡ place_of f s → (st : State) (T : Stands E f st) → SpotAt E k T.root (end_at (start_at s at_root) end.Empty o kinds.EmptyRoot 0)
    start_empty o h p st T =
        let q = from_root in
        let x = (its_seat W).empty (rw q at h) in
        let y : bare (root_slot W.stands.root) (place_of f (root_slot W.stands.root)) ≡ bare s o = rw (sym q) (ap (bare s) (sym p)) in
        let r = root_unique E f st W.st T W.stands ∙ x ∙ y in
        record { visited = rw r refl; empty = λ z. r; in_tree = λ z. absurd (z refl) }

  pub ended_spot : {f k : List ℕ} {s : Spot} → Ended E f k s → (st : State) (T : Stands E f st) → SpotAt E k T.root s
  ended_spot {f} {k} {s} Z st T =
      let u = root_unique E f st Z.st T Z.stands in
      record { visited = rw u Z.visited; empty = λ z. absurd (Z.tree.spot.range.1 z); in_tree = λ z. record { lay = Z.tree.lay; is = u ∙ Z.tree.is; spot = Z.tree.spot } }
