-- The run of a node's children: it starts with none of them, goes on by the next in byte order with all below it, and ends with all of them
-- behind the node's body. Assumes nothing.
use Prim.Native.Nat.{ℕ, suc, ◌+◌, ◌-◌, ◌<◌, ◌≤◌}
use mathlib.Core.Path.{◌≡◌, refl, sym, ap, ◌∙◌}
use mathlib.Core.List.{List, [], ◌∷◌, ◌++◌, append_assoc, append-nil, head-eq_of_cons-eq, tail-eq_of_cons-eq}
use native.Mathlib.Omega.{arith}
use lib.ListN.{length, drop, length-append}
use lib.Seq.{drop-cons, drop-length}
use Rattle.layout.specs.Number.{Bytes}
use Rattle.layout.specs.Place.{entry_at}
use Rattle.layout.specs.Kind.{Inner, body_size, fewest, most}
use Rattle.layout.specs.Entry.{high_of, place_of, entry_of}
use Rattle.layout.proofs.KindLaws.{inner_range}
use Rattle.model.specs.Edition.{Edition, Lawful}
use Rattle.model.specs.Tree.{count}
use Rattle.model.specs.Image.{smallest, slots, slots_kids, size, size_kids, bytes_of, child_slots, node_body, entries, entries_kids, bodies, bodies_kids}
use Rattle.model.specs.Body.{InnerAt, byte_in, child_in}
use Rattle.model.specs.Frame.{Lay, LayKids, slot_of, art_kids, pairs, NodeOf, Tree, Trees}
use Rattle.model.specs.Frame.Lay.{node}
use Rattle.model.specs.Frame.LayKids.{nil, kid}
use Rattle.model.proofs.StringLaws.{clash}
use Rattle.model.proofs.TextLaws.{has_left}
use Rattle.model.proofs.Well.{WellKids}
use Rattle.model.proofs.WellLaws.{node_inside, inside_short}
use Rattle.model.proofs.StandsGood.{inner_asc, node_well, trees_well}
use Rattle.model.proofs.PackedLaws.{Fits, smallest_fits}
use Rattle.model.proofs.PackedBytes.{length_entries}
use Rattle.model.proofs.UniqueLaws.{tree_unique}
use Rattle.node.specs.Kids.{Reached}
use Rattle.moves.specs.Moved.{Only}
use Rattle.node.proofs.KidsLaws.{reached_start, reached_next}
use Rattle.inner.specs.Inner.{Visit}
use Rattle.inner.proofs.InnerLaws.{inner_room}
use Rattle.pack_body.specs.Part.{Ascending, part_body}
use Rattle.pack_body.proofs.NodeLaws.{part_all, ascending_front, well_ascending}
use Rattle.pack.specs.declared.bodies.Next.{Next}
use Rattle.pack.specs.Laid.{Room, Laid, NodeFits, ChildFits, ChildLaid}
use Rattle.inside.specs.Inside.{InsideAll}
use Rattle.pack.specs.Walk.{packed_lay, packed_run, TreeReady, TreePacked, packed_kind, Going}
use Rattle.pack.proofs.LaidLaws.{laid_as, laid_join, laid_swap, room_first, room_rest, room_only}
use Rattle.pack.proofs.NodeLaws.{node_slots, node_size, node_entries, node_bodies, glue, count_run, length_part}
use Rattle.pack.proofs.WalkLaws.{length_packed, is_inner, node_of_lem, node_trees, kids_inside, node_room}

-- ---- what a node's children say

-- n is what the count of an inner body at o says
abbrev Counted : List ℕ → ℕ → ℕ → Type 0
Counted f o n = (kind : ℕ) (ks : List (ℕ × ℕ)) → InnerAt f o kind ks → n ≡ length ks

module _ {f : List ℕ} {o kind : ℕ} {ks : LayKids} (N : NodeOf f o kind ks) where
  -- 2 to 256 of them, and so a smallest kind
  few : (2 ≤ length (pairs ks)) × (length (pairs ks) ≤ 256)
  few = go (node_well f o kind ks N).sort N.least N.at_most
    where
      go : {k : ℕ} → Inner k → fewest k ≤ length (pairs ks) → length (pairs ks) ≤ most k → (2 ≤ length (pairs ks)) × (length (pairs ks) ≤ 256)
      go Inner.node4 a b = (omega arith, omega arith)
      go Inner.node16 a b = (omega arith, omega arith)
      go Inner.node48 a b = (omega arith, omega arith)
      go Inner.node256 a b = (omega arith, omega arith)

  small_fits : Fits (packed_kind ks) (length (pairs ks))
  small_fits = smallest_fits (length (pairs ks)) few.0 few.1

  -- the count is read where the entry says
  count_in : o + 2 ≤ length f
  count_in = go (node_well f o kind ks N).sort (inner_room (pairs ks) N.inner)
    where
      go : {k : ℕ} → Inner k → o + body_size k ≤ length f → o + 2 ≤ length f
      go Inner.node4 h = omega arith
      go Inner.node16 h = omega arith
      go Inner.node48 h = omega arith
      go Inner.node256 h = omega arith

  count_is : {p n : ℕ} → p ≡ o → Counted f p n → n ≡ length (pairs ks)
  count_is e h = h kind (pairs ks) (rw e N.inner)

  module _ (E : Edition) (path : List ℕ) (B : Bytes f) (T : Trees E f path ks) where
    kids_well : WellKids E (art_kids ks) path 0
    kids_well = trees_well E f B path 0 ks (inner_asc f o kind (pairs ks) N.inner) T

    -- a path to an inner node is not yet whole
    node_left : Lawful E → length path < E.longest
    node_left L = inside_short L path (node_inside L kind (art_kids ks) path (node_well f o kind ks N, kids_well))

-- their bytes ascend
run_bytes : (ks : LayKids) → bytes_of (packed_run ks) ≡ bytes_of (art_kids ks)
run_bytes nil = refl
run_bytes (kid b j l ks) = ap (λ (bs : List ℕ). b ∷ bs) (run_bytes ks)

-- ---- the start

module _ {E : Edition} {f : List ℕ} {s left : ℕ} {out : List ℕ} {at : Next} (T : TreeReady E f s left out at) (low : 4 ≤ high_of f s) where
  abbrev kids : LayKids
  kids = (is_inner T low).kids

  -- the path has a byte left for the child
  pub some_left : 1 ≤ left
  some_left = let d = T.deep in omega (arith, node_left (node_of_lem T low) E T.path T.bytes (node_trees T low) T.lawful)

  module _ {o : ℕ} (eo : o ≡ place_of f s) where
    pub start_in : o + 2 ≤ length f
    start_in = rw eo (count_in (node_of_lem T low))

    module _ {n : ℕ} (en : Counted f o n) {small : ℕ} (es : small ≡ smallest n) where
      start_count : n ≡ length (pairs kids)
      start_count = count_is (node_of_lem T low) eo en

      start_kind : small ≡ packed_kind kids
      start_kind = es ∙ ap smallest start_count

      start_room : Room (1 + slots_kids (packed_run kids)) (body_size (packed_kind kids) + size_kids (packed_run kids)) at out
      start_room =
          let ks = packed_run kids in
          let a = node_slots ks in let b = node_size ks in let e = ap (λ (m : ℕ). body_size (smallest m)) (count_run kids) in
          room_first (omega arith) (omega arith) (node_room T low)

      pub node_fits : NodeFits small out at
      node_fits =
          rw start_kind (let r = inner_range (small_fits (node_of_lem T low)).sort in record { low = r.0; high = r.1; room = room_first (omega arith) (omega arith) start_room })

      pub going_start : {out' : List ℕ} {here : Next} → Laid (entry_of small at.place ∷ []) (part_body small n [] []) at out out' here → Going E f s left out at 0 0 out' here
      going_start {out'} {here} L =
          let M : Laid (entry_of (packed_kind kids) at.place ∷ []) (part_body (packed_kind kids) (length (pairs kids)) [] []) at out out' here = rw (start_kind, start_count) at L in
          let b : length (part_body (packed_kind kids) (length (pairs kids)) [] []) ≡ body_size (packed_kind kids) = length_part (packed_kind kids) (length (pairs kids)) [] [] (small_fits (node_of_lem T low)).sort refl (omega arith) in
          let z : here.slot ≡ at.slot + 1 = M.slot_is in
          let p : here.place ≡ at.place + body_size (packed_kind kids) = M.place_is ∙ ap (λ (m : ℕ). at.place + m) b in
          record {
            lawful = T.lawful;
            kids = kids;
            path = T.path;
            of = node_of_lem T low;
            trees = node_trees T low;
            bytes = T.bytes;
            deep = T.deep;
            most = omega arith;
            reached = reached_start (pairs kids);
            low = omega arith;
            rest = kids;
            rest_is = refl;
            rest_trees = node_trees T low;
            rest_inside = kids_inside T low;
            bs = [];
            ss = [];
            es = [];
            ds = [];
            bytes_long = refl;
            slots_long = refl;
            bytes_are = refl;
            slots_are = ap (λ (m : ℕ). child_slots m (packed_run kids)) z;
            entries_are = ap (λ (m : ℕ). entries_kids (packed_run kids) m) p;
            bodies_are = ap (λ (m : ℕ). bodies_kids (packed_run kids) m here.place) z ∙ ap (λ (m : ℕ). bodies_kids (packed_run kids) (at.slot + 1) m) p;
            laid = laid_as refl (sym (append-nil (part_body (packed_kind kids) (length (pairs kids)) [] []))) M;
            table = (let t = start_room.table in omega arith);
            room = room_rest (omega arith) (omega arith) start_room M;
          }

-- ---- the next child

-- the first of children with these bytes and slots
record Split (c s : ℕ) (more : List (ℕ × ℕ)) (rest : LayKids) : Type 0 where
  pub place : ℕ
  pub lay : Lay
  pub kids : LayKids
  pub is : rest ≡ kid c place lay kids
  pub slot_is : slot_of lay ≡ s
  pub more_is : pairs kids ≡ more

split : (c s : ℕ) (more : List (ℕ × ℕ)) (rest : LayKids) → pairs rest ≡ (c, s) ∷ more → Split c s more rest
unfolding pairs
split c s more nil e = clash (cc)
split c s more (kid b j l ks) e =
    let h : ◌≡◌ {A = ℕ × ℕ} (b, slot_of l) (c, s) = head-eq_of_cons-eq e in
    let hb : b ≡ c = ap (λ (x : ℕ × ℕ). x.0) h in
    record { place = j; lay = l; kids = ks; is = ap (λ (x : ℕ). kid x j l ks) hb; slot_is = ap (λ (x : ℕ × ℕ). x.1) h; more_is = tail-eq_of_cons-eq e }

module _ {E : Edition} {f : List ℕ} {s left : ℕ} {out : List ℕ} {at : Next} {i from : ℕ} {out' : List ℕ} {here : Next} (G : Going E f s left out at i from out' here) where
  abbrev small : ℕ
  small = packed_kind G.kids

  abbrev n : ℕ
  n = length (pairs G.kids)

  going_fits : Fits small n
  going_fits = small_fits G.of

  part_long : length (part_body small n G.bs G.ss) ≡ body_size small
  part_long = let h = G.most in let F = going_fits.at_most in let k = G.slots_long in length_part small n G.bs G.ss going_fits.sort (G.bytes_long ∙ sym k) (omega arith)

  -- the body lies below what comes next
  body_below : (at.place + body_size small ≤ here.place) × (at.place + body_size small ≤ length out')
  body_below =
      let a = length-append (part_body small n G.bs G.ss) G.ds in
      let b = part_long in
      let p = G.laid.place_is in
      let t = G.laid.text.fits in
      (omega arith, omega arith)

  -- what a turn reads of the node: its entry, its count and the kind that it is packed at
  module _ {o kind m : ℕ} (eo : o ≡ place_of f s) (ek : kind ≡ high_of f s) (em : Counted f o m) (more : i < m) where
    going_count : m ≡ n
    going_count = count_is G.of eo em

    inside_kids : i < n
    inside_kids = let e = going_count in omega arith

    pub going_visit : Visit f o kind i from
    going_visit = rw (eo, ek) (record { kids = pairs G.kids; node = G.of.inner; inside = inside_kids; reached = G.reached; low = G.low })

    module _ {k : ℕ} (es : k ≡ smallest m) where
      going_kind : k ≡ small
      going_kind = es ∙ ap smallest going_count

      pub going_child : ChildFits out' at.place k i
      going_child =
          rw going_kind
          (let r = inner_range going_fits.sort in
          let a = going_fits.at_most in
          let b = inside_kids in
          record { low = r.0; high = r.1; few = omega arith; inside = body_below.1 })

      -- the child that it names
      module _ {c w : ℕ} (byte : c < 256) (named : (ks : List (ℕ × ℕ)) → InnerAt f o kind ks → Reached ks i from → (c ≡ byte_in ks i) × (w ≡ child_in ks i)) where
        names : (c ≡ byte_in (pairs G.kids) i) × (w ≡ child_in (pairs G.kids) i)
        names = named (pairs G.kids) (rw (eo, ek) G.of.inner) G.reached

        next_is : Split c w (drop (suc i) (pairs G.kids)) G.rest
        next_is = split c w (drop (suc i) (pairs G.kids)) G.rest (G.rest_is ∙ (drop-cons (pairs G.kids) i (0, 0) inside_kids ∙ rw (names.0, names.1)))

        abbrev child : Lay
        child = next_is.lay

        abbrev others : LayKids
        others = next_is.kids

        next_trees : Trees E f G.path (kid c next_is.place child others)
        next_trees = rw next_is.is at G.rest_trees

        next_inside : InsideAll f (kid c next_is.place child others)
        next_inside = rw next_is.is at G.rest_inside

        next_room : Room (slots (packed_lay child) + slots_kids (packed_run others)) (size (packed_lay child) + size_kids (packed_run others)) here out'
        next_room = rw next_is.is at G.room

        next_table : entry_at (here.slot + (slots (packed_lay child) + slots_kids (packed_run others))) ≤ at.place
        next_table = rw next_is.is at G.table

        next_bytes : G.bs ++ c ∷ bytes_of (packed_run others) ≡ bytes_of (packed_run G.kids)
        next_bytes = rw next_is.is at G.bytes_are

        next_slots : G.ss ++ here.slot ∷ child_slots (here.slot + slots (packed_lay child)) (packed_run others) ≡ child_slots (at.slot + 1) (packed_run G.kids)
        next_slots = rw next_is.is at G.slots_are

        next_entries : G.es ++ (entries (packed_lay child) here.place ++ entries_kids (packed_run others) (here.place + size (packed_lay child))) ≡ entries_kids (packed_run G.kids) (at.place + body_size small)
        next_entries = rw next_is.is at G.entries_are

        next_bodies : G.ds ++ (bodies (packed_lay child) here.slot here.place ++ bodies_kids (packed_run others) (here.slot + slots (packed_lay child)) (here.place + size (packed_lay child)))
            ≡ bodies_kids (packed_run G.kids) (at.slot + 1) (at.place + body_size small)
        next_bodies = rw next_is.is at G.bodies_are

        child_tree : Tree E f (G.path ++ c ∷ []) child
        unfolding Trees
        child_tree = next_trees.0

        module _ {out'' : List ℕ} (L : ChildLaid at.place k i c here.slot out' out'') where
          W : ChildLaid at.place small i c here.slot out' out''
          W = rw going_kind at L

          pub going_tree : TreeReady E f w (left - 1) out'' here
          unfolding InsideAll
          going_tree =
              record {
                lawful = G.lawful;
                lay = child;
                path = G.path ++ c ∷ [];
                tree = child_tree;
                slot_is = next_is.slot_is;
                inside = next_inside.0;
                bytes = G.bytes;
                deep = (let d = G.deep in let m = node_left G.of E G.path G.bytes G.trees G.lawful in omega (arith, length-append G.path (c ∷ [])));
                room = room_only body_below.0 (room_first (omega arith) (omega arith) next_room) W.only;
              }

          -- its byte and slot stand in the node
          ascending : Ascending 0 (G.bs ++ c ∷ [])
          ascending =
              let A = well_ascending E (art_kids G.kids) G.path 0 (kids_well G.of E G.path G.bytes G.trees) in
              let e : G.bs ++ c ∷ bytes_of (packed_run others) ≡ bytes_of (art_kids G.kids) = next_bytes ∙ run_bytes G.kids in
              ascending_front 0 G.bs c (bytes_of (packed_run others)) (rw e A)

          grown : Laid (entry_of small at.place ∷ G.es) (part_body small n (G.bs ++ c ∷ []) (G.ss ++ here.slot ∷ []) ++ G.ds) at out out'' here
          grown =
              let x = part_body small n G.bs G.ss in
              let y = part_body small n (G.bs ++ c ∷ []) (G.ss ++ here.slot ∷ []) in
              let p = part_long in
              let a = length-append G.bs (c ∷ []) in let b = length-append G.ss (here.slot ∷ []) in
              let g = G.slots_long in let l = G.bytes_long in let h = going_fits.at_most in let d = inside_kids in
              let q : length y ≡ body_size small = length_part small n (G.bs ++ c ∷ []) (G.ss ++ here.slot ∷ []) going_fits.sort (omega arith) (omega arith) in
              let O : Only out' out'' at.place (at.place + length x) = rw p W.only in
              let t = next_table in let z = G.laid.slot_is in
              laid_swap x y G.ds (omega arith) (q ∙ sym p) G.laid O (W.more n G.bs G.ss l g ascending (has_left x G.ds G.laid.text))

          module _ {out3 : List ℕ} {r : Next} (P : TreePacked E f w out'' here out3 r) where
            packed_child : Laid (entries (packed_lay child) here.place) (bodies (packed_lay child) here.slot here.place) here out'' out3 r
            packed_child =
                let same : P.lay ≡ child = tree_unique E f P.path (G.path ++ c ∷ []) P.lay child P.tree child_tree (P.slot_is ∙ sym next_is.slot_is) in
                laid_as (ap (λ (l : Lay). entries (packed_lay l) here.place) same) (ap (λ (l : Lay). bodies (packed_lay l) here.slot here.place) same) P.laid

            pub going_next : Going E f s left out at (i + 1) (c + 1) out3 r
            unfolding Trees InsideAll
            going_next =
                let a = length_entries (packed_lay child) here.place in
                let b = length_packed G.lawful f (G.path ++ c ∷ []) child G.bytes child_tree here.slot here.place in
                let z : i + 1 ≡ suc i = omega arith in
                let rs : here.slot + slots (packed_lay child) ≡ r.slot = (let y = packed_child.slot_is in omega arith) in
                let rp : here.place + size (packed_lay child) ≡ r.place = (let y = packed_child.place_is in omega arith) in
                let t = next_table in let x = G.laid.slot_is in let y = inside_kids in
                record {
                  lawful = G.lawful;
                  kids = G.kids;
                  path = G.path;
                  of = G.of;
                  trees = G.trees;
                  bytes = G.bytes;
                  deep = G.deep;
                  most = omega arith;
                  reached = rw names.0 (reached_next (pairs G.kids) i (inner_asc f (place_of f s) (high_of f s) (pairs G.kids) G.of.inner) inside_kids);
                  low = omega arith;
                  rest = others;
                  rest_is = next_is.more_is ∙ ap (λ (m : ℕ). drop m (pairs G.kids)) (sym z);
                  rest_trees = next_trees.1;
                  rest_inside = next_inside.1;
                  bs = G.bs ++ c ∷ [];
                  ss = G.ss ++ here.slot ∷ [];
                  es = G.es ++ entries (packed_lay child) here.place;
                  ds = G.ds ++ bodies (packed_lay child) here.slot here.place;
                  bytes_long = (let l = G.bytes_long in omega (arith, length-append G.bs (c ∷ [])));
                  slots_long = (let l = G.slots_long in omega (arith, length-append G.ss (here.slot ∷ [])));
                  bytes_are = append_assoc G.bs (c ∷ []) (bytes_of (packed_run others)) ∙ next_bytes;
                  slots_are = append_assoc G.ss (here.slot ∷ []) (child_slots r.slot (packed_run others)) ∙ (ap (λ (m : ℕ). G.ss ++ here.slot ∷ child_slots m (packed_run others)) (sym rs) ∙ next_slots);
                  entries_are =
                      append_assoc G.es (entries (packed_lay child) here.place) (entries_kids (packed_run others) r.place)
                      ∙ (ap (λ (m : ℕ). G.es ++ (entries (packed_lay child) here.place ++ entries_kids (packed_run others) m)) (sym rp) ∙ next_entries);
                  bodies_are =
                      append_assoc G.ds (bodies (packed_lay child) here.slot here.place) (bodies_kids (packed_run others) r.slot r.place)
                      ∙ (ap (λ (m : ℕ). G.ds ++ (bodies (packed_lay child) here.slot here.place ++ bodies_kids (packed_run others) m r.place)) (sym rs)
                      ∙ (ap (λ (m : ℕ). G.ds ++ (bodies (packed_lay child) here.slot here.place ++ bodies_kids (packed_run others) (here.slot + slots (packed_lay child)) m)) (sym rp) ∙ next_bodies));
                  laid = laid_as refl (append_assoc (part_body small n (G.bs ++ c ∷ []) (G.ss ++ here.slot ∷ [])) G.ds (bodies (packed_lay child) here.slot here.place)) (laid_join (omega arith) grown packed_child);
                  table = omega arith;
                  room = room_rest (omega arith) (omega arith) (room_only body_below.0 next_room W.only) packed_child;
                }

-- ---- the end

none_left : (rest : LayKids) → pairs rest ≡ [] → rest ≡ nil
unfolding pairs
none_left nil e = refl
none_left (kid b j l ks) e = clash (cc)

module _ {E : Edition} {f : List ℕ} {s left : ℕ} {out : List ℕ} {at : Next} {i from : ℕ} {out' : List ℕ} {here : Next} (G : Going E f s left out at i from out' here) {o m : ℕ} (eo : o ≡ place_of f s) (em : Counted f o m) (all : m ≤ i) where
  all_count : i ≡ length (pairs G.kids)
  all_count = let a = G.most in let b = count_is G.of eo em in omega arith

  no_rest : G.rest ≡ nil
  no_rest = none_left G.rest (G.rest_is ∙ (ap (λ (j : ℕ). drop j (pairs G.kids)) all_count ∙ drop-length (pairs G.kids)))

  all_small : packed_kind G.kids ≡ smallest (count (packed_run G.kids))
  all_small = ap smallest (sym (count_run G.kids))

  all_bytes : G.bs ≡ bytes_of (packed_run G.kids)
  all_bytes = sym (append-nil G.bs) ∙ rw no_rest at G.bytes_are

  all_slots : G.ss ≡ child_slots (at.slot + 1) (packed_run G.kids)
  all_slots = sym (append-nil G.ss) ∙ rw no_rest at G.slots_are

  all_entries : G.es ≡ entries_kids (packed_run G.kids) (at.place + body_size (packed_kind G.kids))
  all_entries = sym (append-nil G.es) ∙ rw no_rest at G.entries_are

  all_bodies : G.ds ≡ bodies_kids (packed_run G.kids) (at.slot + 1) (at.place + body_size (packed_kind G.kids))
  all_bodies = sym (append-nil G.ds) ∙ rw no_rest at G.bodies_are

  pub going_end : TreePacked E f s out at out' here
  unfolding Tree
  going_end =
      let ks = packed_run G.kids in
      let k = packed_kind G.kids in
      let a = at.slot in let p = at.place in
      let en : length (pairs G.kids) ≡ length G.bs = sym all_count ∙ sym G.bytes_long in
      record {
        lay = node s (place_of f s) (high_of f s) G.kids;
        path = G.path;
        tree = (record { kind_is = refl; place_is = refl }, G.of, G.trees);
        slot_is = refl;
        laid = laid_as
            (ap (λ (x : List ℕ). entry_of k p ∷ x) all_entries ∙ (ap (λ (j : ℕ). entry_of j p ∷ entries_kids ks (p + body_size j)) all_small ∙ sym (node_entries ks p)))
            (ap (λ (j : ℕ). part_body k j G.bs G.ss ++ G.ds) en ∙ (ap (λ (x : List ℕ). x ++ G.ds) (part_all k G.bs G.ss) ∙ (glue k all_bytes all_slots all_bodies
            ∙ (ap (λ (j : ℕ). node_body j (bytes_of ks) (child_slots (a + 1) ks) ++ bodies_kids ks (a + 1) (p + body_size j)) all_small ∙ sym (node_bodies ks a p)))))
            G.laid;
      }
