-- A key's way that ends within a Prefix: where the walked string parts from it, the tree opened there, and what the calls ask. Assumes nothing.
use Prim.Native.Nat.{ℕ, suc, ◌+◌, ◌<◌, ◌≤◌}
use mathlib.Core.Path.{◌≡◌, refl, sym, ap, subst, ◌∙◌}
use mathlib.Core.List.{List, [], ◌∷◌, ◌++◌, append_assoc}
use native.Mathlib.Omega.{arith}
use lib.ListN.{length, get_or, take, drop, length-append}
use lib.Seq.{take-append_seam, get_or-append_seam}
use Rattle.layout.specs.Number.{byte_at}
use Rattle.layout.specs.Place.{prefix_bytes}
use Rattle.layout.specs.Kind.{leaf_kind, prefix_kind, node4_kind, Kind}
use Rattle.model.specs.Strings.{shared, Parted}
use Rattle.model.specs.Edition.{Edition, Value}
use Rattle.model.specs.Tree.{Art, chain, extent_of, put_tree}
use Rattle.model.specs.State.{State}
use Rattle.model.specs.Item.{Item, body, leafy, sum}
use Rattle.model.specs.Body.{PrefixAt}
use Rattle.model.specs.Frame.{Lay, slot_of, IsNode, Below, art, items, View, Heap, tree, root_items, Stands}
use Rattle.model.specs.Frame.Lay.{prefix, node}
use Rattle.model.proofs.StringLaws.{shared_whole, Meets, whole, part, ends, meets}
use Rattle.model.proofs.PutLaws.{drop_past}
use Rattle.model.proofs.WellLaws.{Inside, inside_left, not_inside}
use Rattle.model.proofs.ChainLaws.{as_some}
use Rattle.model.proofs.StandsGood.{below_inside}
use Rattle.room.specs.View.{list_of, place_from, taken, Roomy}
use Rattle.room.specs.Step.{Takes, Took}
use Rattle.room.specs.Book.{RoomFor}
use Rattle.room.proofs.BookLaws.{room_first}
use Rattle.between.specs.Hole.{Step, plug, path_of, steps_items}
use Rattle.between.specs.Work.{Suits, Work}
use Rattle.between.specs.Edit.{leaf_in}
use Rattle.between.proofs.TreeLaws.{prefix_sum}
use Rattle.between.proofs.HoleLaws.{plug_sum}
use Rattle.between.proofs.WorkLaws.{stands_view, stands_sum, work_of, work_open, forest_first, open_prefix, leafy_leaf}
use Rattle.between.proofs.LeadLaws.{leads_rest}
use Rattle.keys.proofs.WordLaws.{spells_at}
use Rattle.descent.specs.declared.spot.Spot.{Spot}
use Rattle.leaf_new.proofs.DoneLaws.{any_root}
use Rattle.chain.specs.Row.{bodies_of, bytes_of, tip_of}
use Rattle.chain.proofs.RowLaws.{row_leafy, leafy_not}
use Rattle.chain.proofs.RunLaws.{run_sum, run_art, run_chained}
use Rattle.chain.proofs.LongLaws.{run_few}
use Rattle.put_split.specs.Parts.{Forks, Forked}
use Rattle.put_split.proofs.ForkLaws.{fork_kids, fork_sum}
use Rattle.put_split.proofs.PartedLaws.{byte_here}
use Rattle.put_cut.specs.Cut.{AtPart}
use Rattle.put_cut.proofs.RunLists.{run_below}
use Rattle.put_cut.proofs.ModelLaws.{made_of, put_parts, shares_is}

-- ---- what a take asks and leaves

pub takes_of : {f : List ℕ} {h : View} (k : ℕ) (ks : List ℕ) (x : ℕ) → Kind k → Heap f h → RoomFor h (k ∷ ks) x → Takes f k
takes_of {h = h} k ks x K H R = record { view = h; heap = H; kind = K; room = room_first h k ks x K H.lists.eight R }

pub took_of : {f g : List ℕ} {h : View} {k m : ℕ} (ks : List ℕ) (x : ℕ) → Kind k → ((h : View) → Heap f h → Roomy h k → Took f g h k m) → Heap f h → RoomFor h (k ∷ ks) x → Took f g h k m
took_of {h = h} {k = k} ks x K T H R = T h H (room_first h k ks x K H.lists.eight R)

-- ---- Leaves

-- a run has none
pub run_leaves : (t u : Lay) → tip_of t ≡ tip_of u → sum leafy (items t) ≡ sum leafy (items u)
run_leaves t u e = omega (arith, run_sum leafy t, run_sum leafy u, row_leafy (bodies_of t), row_leafy (bodies_of u), ap (λ y. sum leafy (items y)) e)

-- the Node4 with a new Leaf
pub fork_leaves : (h : View) (k : List ℕ) (v : Value) (n m o b c : ℕ) (u : Lay) → sum leafy (items (node m o node4_kind (fork_kids b (leaf_in h n k v) c u))) ≡ sum leafy (items u) + 1
fork_leaves h k v n m o b c u =
    omega (arith, fork_sum leafy m o b (leaf_in h n k v) c u, leafy_not m node4_kind o (omega arith), leafy_leaf n (place_from h (list_of h leaf_kind)) (taken h leaf_kind).nums.B k v)

-- ---- at the spot

module _ {E : Edition} {f k word : List ℕ} {v : Value} {p : Spot} (A : AtPart E f k word v p) where
  abbrev pub xs : List Step
  xs = A.put.way.steps

  abbrev pub text : List ℕ
  text = A.part.bytes

  abbrev pub below : Lay
  below = A.part.below

  abbrev pub old : Lay
  old = prefix p.here.slot p.here.place text below

  abbrev pub own : Item
  own = body p.here.slot prefix_kind p.here.place

  abbrev pub w0 : Stands E f A.put.ready.st
  w0 = A.put.ready.stands

  pub root_at : {s : State} (w : Stands E f s) → w.root ≡ tree (plug xs old)
  root_at {s} w = any_root A.put s w ∙ ap (λ (t : Lay). tree (plug xs t)) A.part.is

  pub opened : {s : State} (w : Stands E f s) → Work E f (stands_view w) xs p.here.slot ((path_of xs, old) ∷ []) [] × Suits xs old
  opened w = work_open xs old [] (work_of w (plug xs old) (root_at w)) refl

  pub parts : {s : State} (w : Stands E f s) → Work E f (stands_view w) xs p.here.slot ((path_of xs ++ text, below) ∷ []) (own ∷ []) × PrefixAt f p.here.place text (slot_of below) × Below text below
  parts w = open_prefix (path_of xs) [] [] p.here.slot p.here.place text below (opened w).0

  -- all that the tree owns
  pub old_sum : {s : State} (w : Stands E f s) (z : Item → ℕ) → sum z (root_items w.root) ≡ sum z (steps_items xs) + (z own + sum z (items below))
  old_sum w z = omega (arith, stands_sum w (plug xs old) (root_at w) z, plug_sum z xs old, prefix_sum z p.here.slot p.here.place text below)

  -- ---- the shared beginning from there on: its bytes, its bodies, and what stands below

  pub old_run : IsNode (tip_of below) × (length (bodies_of below) ≡ chain (length (bytes_of below)))
  old_run = run_below (path_of xs ++ text) text below (parts w0).0 (parts w0).2

  pub old_many : suc (length (bodies_of below)) ≡ chain (length (bytes_of old))
  old_many = run_chained E f (path_of xs) old (forest_first E f (path_of xs) old [] (opened w0).0.trees).0

  pub old_art : art old ≡ Art.prefix (bytes_of old) (art (tip_of below))
  old_art =
      (run_art E f (path_of xs) old (forest_first E f (path_of xs) old [] (opened w0).0.trees).0 tt).0
      ∙ as_some (bytes_of old) (art (tip_of below)) (omega (arith, length-append text (bytes_of below), (parts w0).1.some))

  -- no more bodies than a row has
  pub few_bodies : length (bodies_of below) < 5
  few_bodies = omega (arith, run_few A.put.ready.lawful f w0.bytes (path_of xs) old (forest_first E f (path_of xs) old [] (opened w0).0.trees).0 tt)

  -- ---- where the strings part

  rest_shared : p.shared ≡ shared text A.put.way.rest
  rest_shared = A.part.shares ∙ ap (λ d. shared text (drop d (E.walked k))) A.put.way.deep ∙ ap (shared text) (leads_rest A.put.way.leads)

  -- a legal walked string goes on from the Prefix
  inside : Inside E (path_of xs ++ text)
  inside = below_inside A.put.ready.lawful f (path_of xs ++ text) text below w0.bytes (parts w0).2 (forest_first E f (path_of xs ++ text) below [] (parts w0).0.trees).0

  pub cut : Parted A.put.way.rest text
  cut = go (meets text A.put.way.rest)
    where
      go : Meets text A.put.way.rest → Parted A.put.way.rest text
      go (whole t e) = absurd (omega (arith, A.part.less, rest_shared, ap (shared text) e, shared_whole text t))
      go (part w b s c t e e' n) = record { w = w; b = b; s = s; c = c; t = t; left = e; right = e'; apart = n }
      go (ends c t e) =
          let q : path_of xs ++ text ≡ (path_of xs ++ A.put.way.rest) ++ c ∷ t = ap (λ x. path_of xs ++ x) e ∙ sym (append_assoc (path_of xs) A.put.way.rest (c ∷ t)) in
          not_inside A.put.ready.lawful k (path_of xs ++ A.put.way.rest) A.put.ready.legal (inside_left (path_of xs ++ A.put.way.rest) (c ∷ t) (subst (Inside E) q inside)) A.put.way.leads.word

  -- what is left of the whole
  abbrev pub left : List ℕ
  left = cut.t ++ bytes_of below

  abbrev pub all_cut : Parted A.put.way.rest (bytes_of old)
  all_cut = record { w = cut.w; b = cut.b; s = cut.s; c = cut.c; t = left; left = cut.left; right = ap (λ y. y ++ bytes_of below) cut.right ∙ append_assoc cut.w (cut.c ∷ cut.t) (bytes_of below); apart = cut.apart }

  pub spelt : E.walked k ≡ path_of xs ++ A.put.way.rest
  spelt = A.put.way.leads.word

  pub shares : p.shared ≡ length cut.w
  shares = A.part.shares ∙ ap (λ d. shared text (drop d (E.walked k))) A.put.way.deep ∙ shares_is E k (path_of xs) spelt cut

  -- what put makes of it
  pub old_put : put_tree E (art old) (length (path_of xs)) k v ≡ made_of k v cut.b cut.c (art (tip_of below)) cut.w left
  old_put = ap (λ x. put_tree E x (length (path_of xs)) k v) old_art ∙ put_parts E k (path_of xs) spelt all_cut v (art (tip_of below))

  -- the parts as strings
  pub past_is : (q : ℕ) → q ≡ p.shared + 1 → drop q text ≡ cut.t
  past_is q e = ap (λ i. drop i text) (let z : q ≡ suc (length cut.w) = omega (arith, shares) in z) ∙ ap (drop (suc (length cut.w))) cut.right ∙ drop_past cut.w cut.c cut.t

  pub upto_is : (q : ℕ) → q ≡ p.shared + 1 → take q text ≡ cut.w ++ cut.c ∷ []
  upto_is q e =
      let z : q ≡ length (cut.w ++ cut.c ∷ []) = omega (arith, shares, length-append cut.w (cut.c ∷ [])) in
      ap (λ i. take i text) z ∙ ap (take (length (cut.w ++ cut.c ∷ []))) (cut.right ∙ sym (append_assoc cut.w (cut.c ∷ []) cut.t)) ∙ take-append_seam (cut.w ++ cut.c ∷ []) cut.t

  pub before_is : take p.shared text ≡ cut.w
  before_is = ap (λ i. take i text) shares ∙ ap (take (length cut.w)) cut.right ∙ take-append_seam cut.w (cut.c ∷ cut.t)

  -- ---- what is read

  pub prefix_room : (p.here.place + 128 ≤ length f) × (p.shared < 112)
  prefix_room = let P = (parts w0).1 in (P.room, omega (arith, P.most, A.part.less))

  pub word_low : p.depth + p.shared < 512
  word_low = omega (arith, A.part.short, A.part.less, A.put.ready.lawful.fields.words)

  -- the key's byte and the Prefix's
  module _ {d q b c : ℕ} (ed : d ≡ p.depth + p.shared) (eq : q ≡ p.shared) (eb : b ≡ get_or word d 0) (ec : c ≡ byte_at f (p.here.place + prefix_bytes + q)) where
    new_byte : b ≡ cut.b
    new_byte = eb ∙ spells_at A.spells d ∙ ap (λ i. get_or (E.walked k) i 0) (omega (arith, A.put.way.deep, shares)) ∙ byte_here E k (path_of xs) spelt cut

    old_byte : c ≡ cut.c
    old_byte =
        ec ∙ ap (λ i. byte_at f (p.here.place + prefix_bytes + i)) eq ∙ (parts w0).1.text p.shared A.part.less ∙ ap (λ x. get_or x p.shared 0) cut.right
        ∙ ap (λ i. get_or (cut.w ++ cut.c ∷ cut.t) i 0) shares ∙ get_or-append_seam cut.w cut.c cut.t 0

    pub bytes_differ : b ≡ c → ⊥
    bytes_differ z = cut.apart (sym new_byte ∙ z ∙ old_byte)

    pub forked_as : {g h : List ℕ} {m y : ℕ} → Forked g h k v m b c y → Forked g h k v m cut.b cut.c y
    forked_as {g} {h} {m} {y} F = subst (λ x. Forked g h k v m cut.b x y) old_byte (subst (λ x. Forked g h k v m x c y) new_byte F)

  -- what `fork` asks of the work
  pub forks_of : {f1 : List ℕ} {h : View} {ys : List Step} {s m o : ℕ} {ts : List (List ℕ × Lay)} {loose : List Item} → Work E f1 h ys s ts (body m node4_kind o ∷ loose) → RoomFor h (leaf_kind ∷ []) (extent_of k v) → Forks f1 k v m
  forks_of W R = record { edition = E; lawful = A.put.ready.lawful; view = _; steps = _; top = _; trees = _; loose = _; place = _; work = W; room = R; legal = A.put.ready.legal; short = A.put.ready.legal_value.passes; stamped = A.put.ready.legal_value.stamp }
