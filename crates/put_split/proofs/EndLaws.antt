-- The end of every split: the link to the hole names the new tree, and R grows. Assumes nothing.
use Prim.Native.Nat.{ℕ, suc, ◌+◌, ◌<◌, ◌≤◌}
use mathlib.Core.Path.{◌≡◌, refl}
use mathlib.Core.List.{List, [], ◌∷◌, ◌++◌, append-nil}
use mathlib.Core.Bool.{Bool, true, false}
use native.Mathlib.Omega.{arith}
use lib.Dec.{eqb}
use Rattle.layout.specs.Kind.{leaf_kind, node4_kind, Kind}
use Rattle.model.specs.Strings.{pick}
use Rattle.model.specs.Edition.{Edition}
use Rattle.model.specs.State.{State, tally}
use Rattle.model.specs.Item.{Item, sum}
use Rattle.model.specs.Frame.{Lay, slot_of, View, tree, root_items, Stands}
use Rattle.model.specs.Touch.{holder}
use Rattle.room.specs.View.{recorded, rooted}
use Rattle.room.specs.Step.{Took}
use Rattle.room.proofs.HeapLaws.{took_lies}
use Rattle.between.specs.Hole.{Step, plug, path_of, holder_of, Link}
use Rattle.between.specs.Work.{Suits, root_of, Work}
use Rattle.between.specs.Since.{Since, SlotsIn, holder_items}
use Rattle.between.specs.Edit.{Booked}
use Rattle.between.proofs.HoleLaws.{plug_sum}
use Rattle.between.proofs.WorkLaws.{stands_view, stands_sum, work_count, work_close}
use Rattle.between.proofs.LinkLaws.{relinked}
use Rattle.between.proofs.SinceLaws.{since_link, since_count}
use Rattle.between.proofs.OutsideLaws.{holder_sum, holder_slots}
use Rattle.between.proofs.BookedLaws.{booked_root, booked_count}
use Rattle.room.specs.Link.{Relinked}
use Rattle.leaf_new.specs.Make.{Counted}

-- ---- kinds

pub node4_kind_lem : Kind node4_kind
node4_kind_lem = (omega arith, omega arith, λ z. omega arith)

pub leaf_kind_lem : Kind leaf_kind
leaf_kind_lem = (omega arith, omega arith, λ z. omega arith)

-- "In `after`, order of takes does not matter"
pub tally_two : (a b j : ℕ) → tally (a ∷ b ∷ []) j ≡ tally (b ∷ a ∷ []) j
tally_two a b j = go (eqb a j) (eqb b j)
  where
    go : (x y : Bool) → pick x (suc (pick y 1 0)) (pick y 1 0) ≡ pick y (suc (pick x 1 0)) (pick x 1 0)
    go true true = refl
    go true false = refl
    go false true = refl
    go false false = refl

-- ---- a slot that was taken

pub took_slot : {f g : List ℕ} {h : View} {k s : ℕ} → Took f g h k s → Kind k → (1 ≤ s) × (s < 65536)
took_slot T K =
    let L = took_lies T K in
    let c = T.heap.header.slot_cap in
    (L.low, omega (arith, L.table))

-- ---- the link and the count

module _ {E : Edition} {f f' g : List ℕ} {h : View} {xs : List Step} {s at m : ℕ} (lay : Lay) (W : Work E f h xs s ((path_of xs, lay) ∷ []) []) (link : Link xs at) (fits : (1 ≤ m) × (m < 65536)) (em : m ≡ slot_of lay)
    (suits : Suits xs lay) (R : Relinked f f' at m) (C : Counted f' g) where
  abbrev pub end_view : View
  end_view = recorded (rooted h (root_of xs m)) (h.nums.R + 1)

  linked : Work E f' (rooted h (root_of xs m)) xs m ((path_of xs, lay) ∷ []) []
  linked = relinked m fits.0 fits.1 at xs link W R

  pub end_work : Work E g end_view [] (slot_of (plug xs lay)) (([], plug xs lay) ∷ []) []
  end_work = work_close xs lay [] (work_count linked (h.nums.R + 1) (C (rooted h (root_of xs m)) linked.heap)) em suits

  pub end_since : {f0 : List ℕ} {h0 : View} {ts rs gs ys : List Item} → Since f0 h0 f h ts rs gs ys → Since f0 h0 g end_view ts (holder_items xs ++ rs) gs ys
  end_since Z = since_count (since_link m at xs link W R Z) (C (rooted h (root_of xs m)) linked.heap)

  pub end_booked : {h0 : View} {ks fs : List ℕ} {x d : ℕ} → Booked h0 h ks fs x d h0.nums.R → Booked h0 end_view ks fs x d (h0.nums.R + 1)
  end_booked {h0} B = booked_count (booked_root B (root_of xs m)) (h.nums.R + 1) (h0.nums.R + 1) (omega (arith, B.R))

-- ---- the body that names the hole

module _ {E : Edition} {f : List ℕ} {st : State} (w : Stands E f st) (xs : List Step) (t : Lay) (er : w.root ≡ tree (plug xs t)) where
  pub holders_in : {s : ℕ} {us : List (List ℕ × Lay)} {loose : List Item} → Work E f (stands_view w) xs s us loose → SlotsIn (holder (holder_of xs)) (holder_items xs ++ [])
  holders_in W = rw (append-nil (holder_items xs)) (holder_slots W)

  pub holders_some : (z : Item → ℕ) → sum z (holder_items xs ++ []) ≤ sum z (root_items w.root)
  holders_some z = rw (append-nil (holder_items xs)) (omega (arith, holder_sum z xs, stands_sum w (plug xs t) er z, plug_sum z xs t))
