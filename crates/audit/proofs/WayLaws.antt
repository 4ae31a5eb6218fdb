-- The walk's loop: the children of the node that it is at, then those of the nodes that wait, the last one first. One law for each
-- turn of the loop. Assumes nothing.
use Prim.Native.Nat.{ℕ, suc, ◌+◌, ◌*◌, ◌%◌, ◌<◌, ◌≤◌}
use mathlib.Core.Path.{◌≡◌, refl, sym, ap, ◌∙◌}
use mathlib.Core.List.{List, [], ◌∷◌, ◌++◌, append-nil}
use native.Mathlib.Omega.{arith}
use lib.ListN.{length, get_or, set, take, drop, length-set}
use lib.Seq.{take-take, take-set-le, drop-length, get_or-set_same, get_or-set_other, get_or-take}
use Rattle.std.specs.Prelude.{Option, Some, None}
use Rattle.layout.specs.Kind.{Inner, body_size, most}
use Rattle.layout.specs.Kind.Inner.{node4, node16, node48, node256}
use Rattle.layout.specs.Entry.{place_of, high_of}
use Rattle.layout.proofs.KindLaws.{size_least, range_inner}
use Rattle.model.specs.Edition.{Edition}
use Rattle.model.specs.Item.{Item, body, sum}
use Rattle.model.specs.Body.{InnerAt, byte_in, child_in}
use Rattle.model.specs.Frame.{LayKids, Entry, pairs, items_all, Places, Trees}
use Rattle.model.specs.Frame.LayKids.{nil, kid}
use Rattle.model.proofs.StringLaws.{clash}
use Rattle.model.proofs.ItemLaws.{sum_cons}
use Rattle.model.proofs.UniqueLaws.{inner_unique}
use Rattle.model.proofs.StandsGood.{inner_asc}
use Rattle.node.specs.Kids.{Reached}
use Rattle.node.proofs.KidsLaws.{reached_start, reached_next}
use Rattle.shape_inner.specs.Inner.{InnerHere}
use Rattle.census.specs.declared.Sums.{Sums}
use Rattle.census.specs.Told.{is_body, Tally, Told}
use Rattle.census.proofs.ToldLaws.{Leads, grown_none, told_no, told_yes}
use Rattle.audit.specs.declared.walk.Inner as walk
use Rattle.audit.specs.Walk.{wait_of, slot_in, depth_in, turn_in, Kept, TreeItems, RunItems, Fails, NodeOpened, PrefixLeads}
use Rattle.audit.proofs.TreeLaws.{tree_first}
use Rattle.audit.proofs.OpenLaws.{Row, opens_told, opens_on, opens_as, row_opens, row_fails, row_move, row_back, tree_opens}
use Rattle.audit.proofs.WalkLaws.{entry_made, path_byte, run_split, run_join, kids_next}

-- ---- what is left

-- the children from `next` on of the node at a place
abbrev pub Rest : Edition → List ℕ → List ℕ → ℕ → ℕ → List (ℕ × ℕ) → ℕ → List Item → Type 0
Rest Ed f path place kind kids next = RunItems Ed f path place kind (drop next kids)

-- a node that waits, until those before `next` are counted
pub record Way : Type 0 where
  pub slot : ℕ
  pub place : ℕ
  pub kind : ℕ
  pub depth : ℕ
  pub next : ℕ
  pub path : List ℕ
  pub kids : List (ℕ × ℕ)

unfoldable pub Waiting : Edition → List ℕ → List Way → List Item → Type 0
Waiting Ed f [] xs = xs ≡ []
Waiting Ed f (w ∷ ws) xs = Row (Rest Ed f w.path w.place w.kind w.kids w.next) (Waiting Ed f ws) xs

-- ---- what the array holds of the nodes that wait

-- a node that waits, read back
module _ (slot depth turn : ℕ) (hd : depth < 512) (ht : turn < 256) where
  wait_slot : slot_in (wait_of slot depth turn) ≡ slot
  unfolding slot_in wait_of
  wait_slot = omega arith

  wait_depth : depth_in (wait_of slot depth turn) ≡ depth
  unfolding depth_in wait_of
  wait_depth = let e : (slot * 131072 + depth * 256 + turn) % 131072 ≡ depth * 256 + turn = omega arith in rw e (omega arith)

  wait_turn : turn_in (wait_of slot depth turn) ≡ turn
  unfolding turn_in wait_of
  wait_turn = omega arith

pub record Noted (f : List ℕ) (u b : ℕ) (path waits : List ℕ) (k : ℕ) (w : Way) : Type 0 where
  pub node : InnerAt f w.place w.kind w.kids
  pub entry : Entry f w.slot w.kind w.place
  pub first : 1 ≤ w.slot
  pub last : w.slot ≤ u
  pub room : w.place + body_size w.kind ≤ b
  pub slot_is : slot_in (get_or waits k 0) ≡ w.slot
  pub depth_is : depth_in (get_or waits k 0) ≡ w.depth
  pub next_is : turn_in (get_or waits k 0) + 1 ≡ w.next
  pub inside : turn_in (get_or waits k 0) < length w.kids
  pub led : take w.depth path ≡ w.path
  pub byte : get_or path w.depth 0 ≡ byte_in w.kids (turn_in (get_or waits k 0))
  pub small : get_or path w.depth 0 < 256
  pub few : length w.kids ≤ 256

-- each is less deep than the next
unfoldable pub AllNoted : List ℕ → ℕ → ℕ → List ℕ → List ℕ → ℕ → List Way → Type 0
AllNoted f u b path waits top [] = Unit {0}
AllNoted f u b path waits top (w ∷ ws) = Noted f u b path waits (length ws) w × (w.depth < top) × AllNoted f u b path waits w.depth ws

take_less : (a b : ℕ) (p q : List ℕ) → a ≤ b → take b q ≡ take b p → take a q ≡ take a p
take_less a b p q h e = sym (take-take a b q h) ∙ ap (λ (l : List ℕ). take a l) e ∙ take-take a b p h

byte_less : (a b : ℕ) (p q : List ℕ) → a < b → take b q ≡ take b p → get_or q a 0 ≡ get_or p a 0
byte_less a b p q h e = sym (get_or-take b q a 0 h) ∙ ap (λ (l : List ℕ). get_or l a 0) e ∙ get_or-take b p a 0 h

module _ (f : List ℕ) (u b : ℕ) (path waits : List ℕ) where
  noted_few : (top : ℕ) (ws : List Way) → AllNoted f u b path waits top ws → length ws ≤ top
  unfolding AllNoted
  noted_few top [] A = omega arith
  noted_few top (w ∷ ws) A = let h = noted_few w.depth ws A.2 in let l = A.1 in omega arith

  -- the path behind them has changed
  noted_path : (path' : List ℕ) (top : ℕ) (ws : List Way) → take top path' ≡ take top path → AllNoted f u b path waits top ws → AllNoted f u b path' waits top ws
  unfolding AllNoted
  noted_path path' top [] e A = tt
  noted_path path' top (w ∷ ws) e A =
      let N = A.0 in
      let l = A.1 in
      let N' : Noted f u b path' waits (length ws) w = record {
        node = N.node;
        entry = N.entry;
        first = N.first;
        last = N.last;
        room = N.room;
        slot_is = N.slot_is;
        depth_is = N.depth_is;
        next_is = N.next_is;
        inside = N.inside;
        led = take_less w.depth top path path' (omega arith) e ∙ N.led;
        byte = byte_less w.depth top path path' l e ∙ N.byte;
        few = N.few;
        small = rw (byte_less w.depth top path path' l e) N.small;
      } in
      (N', l, noted_path path' w.depth ws (take_less w.depth top path path' (omega arith) e) A.2)

  -- the walk has gone deeper
  noted_deeper : (top deep : ℕ) (ws : List Way) → top ≤ deep → AllNoted f u b path waits top ws → AllNoted f u b path waits deep ws
  unfolding AllNoted
  noted_deeper top deep [] h A = tt
  noted_deeper top deep (w ∷ ws) h A = let l = A.1 in (A.0, omega arith, A.2)

  -- the array has changed from their number on
  noted_kept : (k x top : ℕ) (ws : List Way) → length ws ≤ k → AllNoted f u b path waits top ws → AllNoted f u b path (set waits k x) top ws
  unfolding AllNoted
  noted_kept k x top [] h A = tt
  noted_kept k x top (w ∷ ws) h A =
      let N = A.0 in
      let j = length ws in
      let far : j ≡ k → ⊥ = λ q. omega arith in
      let e = get_or-set_other waits k j x 0 far in
      let N' : Noted f u b path (set waits k x) j w = record {
        node = N.node;
        entry = N.entry;
        first = N.first;
        last = N.last;
        room = N.room;
        slot_is = rw e N.slot_is;
        depth_is = rw e N.depth_is;
        next_is = rw e N.next_is;
        inside = rw e N.inside;
        led = N.led;
        byte = rw e N.byte;
        small = N.small;
        few = N.few;
      } in
      (N', A.1, noted_kept k x w.depth ws (omega arith) A.2)

-- ---- the loop's invariant

-- what is known of the last of them, once it is read, before its entry is
pub record Above (f : List ℕ) (u b : ℕ) (path : List ℕ) (w depth : ℕ) : Type 0 where
  pub first : 1 ≤ slot_in w
  pub last : slot_in w ≤ u
  pub less : depth_in w < depth
  pub room : place_of f (slot_in w) + 2 ≤ b
  pub least : 4 ≤ high_of f (slot_in w)
  pub most : high_of f (slot_in w) ≤ 7
  pub turn : turn_in w < 256
  pub byte : get_or path (depth_in w) 0 < 256

pub node_room : {f : List ℕ} {o kind b : ℕ} {ks : List (ℕ × ℕ)} → InnerAt f o kind ks → o + body_size kind ≤ b → o + 2 ≤ b
node_room {f} {o} {kind} N h = let r = N.range in let l = size_least kind (omega arith) (omega arith) in omega arith

-- an inner node has no more children than there are bytes
few_kids : {f : List ℕ} {o kind : ℕ} {ks : List (ℕ × ℕ)} → InnerHere f o kind → InnerAt f o kind ks → length ks ≤ 256
few_kids {f} {o} {kind} {ks} I N =
    let e = ap (λ (l : List (ℕ × ℕ)). length l) (inner_unique f o kind ks I.kids N I.is) in
    let h = go (range_inner kind N.range.0 N.range.1) in
    let k = I.fits.at_most in
    omega arith
  where
    go : {kind : ℕ} → Inner kind → most kind ≤ 256
    go node4 = omega arith
    go node16 = omega arith
    go node48 = omega arith
    go node256 = omega arith

-- a tree has a body
pub tree_more : {Ed : Edition} {f path : List ℕ} {s d u b : ℕ} {m : List ℕ} {t : Sums} {m' : List ℕ} {r : Option Sums} {t' : Sums} → Told (TreeItems Ed f path s) (TreeItems Ed f path s) f d u b m t m' r → r ≡ Some t' → (t.slots < t'.slots) × (t'.slots ≤ u)
unfolding is_body
tree_more {Ed} {f} {path} {s} {t' = t'} T g =
    let K = T.holds t' g in
    let w = tree_first K.are in
    let e = ap (sum is_body) w.1 in
    (omega (arith, K.grown.slots, e, sum_cons is_body (body s (high_of f s) (place_of f s)) w.0), K.tally.slots)

pub record Walking (Ed : Edition) (G : List Item → Type 0) (f : List ℕ) (d u b : ℕ) (m₀ : List ℕ) (t₀ : Sums) (m path waits : List ℕ) (waiting : ℕ) (t : Sums) (slot place kind depth n i from : ℕ) : Type 0 where
  pub kids : List (ℕ × ℕ)
  pub ways : List Way
  pub node : InnerAt f place kind kids
  pub entry : Entry f slot kind place
  pub first : 1 ≤ slot
  pub last : slot ≤ u
  pub room : place + body_size kind ≤ b
  pub short : depth < length path
  pub tally : Tally u 0 t
  pub count : n ≡ length kids
  pub few : length kids ≤ 256
  pub inside : i ≤ n
  pub reached : Reached kids i from
  pub low : from ≤ 256
  pub height : waiting ≡ length ways
  pub counted : waiting < t.slots
  pub noted : AllNoted f u b path waits depth ways
  pub leads : Leads (Row (Rest Ed f (take depth path) place kind kids i) (Waiting Ed f ways)) (Row (Rest Ed f (take depth path) place kind kids i) (Waiting Ed f ways)) G G f d u b m t m₀ t₀

-- the same where the walk arrives at a slot
pub record Coming (Ed : Edition) (G : List Item → Type 0) (f : List ℕ) (d u b : ℕ) (m₀ : List ℕ) (t₀ : Sums) (m path waits : List ℕ) (waiting : ℕ) (t : Sums) (slot place kind depth : ℕ) : Type 0 where
  pub ways : List Way
  pub kind_is : kind ≡ high_of f slot
  pub place_is : place ≡ place_of f slot
  pub small : place < 1048576
  pub first : 1 ≤ slot
  pub last : slot ≤ u
  pub other : kind ≡ 1 → ⊥
  pub short : depth ≤ length path
  pub tally : Tally u 0 t
  pub height : waiting ≡ length ways
  pub counted : waiting ≤ t.slots
  pub noted : AllNoted f u b path waits depth ways
  pub leads : Leads (Row (TreeItems Ed f (take depth path) slot) (Waiting Ed f ways)) (Row (TreeItems Ed f (take depth path) slot) (Waiting Ed f ways)) G G f d u b m t m₀ t₀

-- ---- the first child, and those after it

module _ {Ed : Edition} {f path : List ℕ} {o kind i c s next : ℕ} {q : List ℕ} (kids : List (ℕ × ℕ)) (below : i < length kids) (ec : c ≡ byte_in kids i) (es : s ≡ child_in kids i) (eq : q ≡ path ++ c ∷ []) (en : next ≡ i + 1) where
  rest_first : (zs : List Item) → Rest Ed f path o kind kids i zs → Row (TreeItems Ed f q s) (Rest Ed f path o kind kids next) zs
  rest_first zs R =
      let z : next ≡ suc i = omega arith in
      let w = run_split f path o kind (c, s) (drop (suc i) kids) zs (rw (kids_next kids i c s below ec es) at R) in
      record { first = w.0; rest = w.2; head = rw eq w.1; tail = rw z w.3; are = w.4 }

  rest_join : (zs : List Item) → Row (TreeItems Ed f q s) (Rest Ed f path o kind kids next) zs → Rest Ed f path o kind kids i zs
  rest_join zs r =
      let z : next ≡ suc i = omega arith in
      let J = run_join f path o kind (c, s) (drop (suc i) kids) r.first r.rest (rw eq at r.head) (rw z at r.tail) in
      rw (r.are, kids_next kids i c s below ec es) J

rest_none : {Ed : Edition} {f path : List ℕ} {o kind i : ℕ} (kids : List (ℕ × ℕ)) → i ≡ length kids → Rest Ed f path o kind kids i []
unfolding Trees Places pairs items_all
rest_none kids e = record { kids = nil; trees = tt; pairs_are = sym (ap (λ (n : ℕ). drop n kids) e ∙ drop-length kids); places = tt; are = refl }

rest_end : {Ed : Edition} {f path : List ℕ} {o kind i : ℕ} (kids : List (ℕ × ℕ)) → i ≡ length kids → (zs : List Item) → Rest Ed f path o kind kids i zs → zs ≡ []
unfolding pairs items_all
rest_end {Ed} {f} {path} {o} {kind} {i} kids e zs R = go R.kids (R.pairs_are ∙ ap (λ (n : ℕ). drop n kids) e ∙ drop-length kids) R.are
  where
    go : (k : LayKids) → pairs k ≡ [] → items_all k ≡ zs → zs ≡ []
    go nil p a = sym a
    go (kid b j l rest) p a = clash (cc)

-- ---- turns of the loop

-- the walk starts
pub walk_start : {Ed : Edition} {f : List ℕ} {d u b s place kind : ℕ} {m : List ℕ} {t : Sums} (path waits : List ℕ) → kind ≡ high_of f s → place ≡ place_of f s → place < 1048576 → 1 ≤ s → s ≤ u → (kind ≡ 1 → ⊥) → Tally u 0 t
    → Coming Ed (TreeItems Ed f [] s) f d u b m t m path waits 0 t s place kind 0
unfolding AllNoted Waiting
walk_start path waits ek eo small a z n y =
    record {
      ways = [];
      kind_is = ek;
      place_is = eo;
      small = small;
      first = a;
      last = z;
      other = n;
      short = omega arith;
      tally = y;
      height = refl;
      counted = omega arith;
      noted = tt;
      leads = λ m'' r T. opens_told (opens_as (λ xs r. rw (r.are, r.tail, append-nil r.first) r.head) (λ xs R. record { first = xs; rest = []; head = R; tail = refl; are = sym (append-nil xs) })) T;
    }

module _ {Ed : Edition} {G : List Item → Type 0} {f : List ℕ} {d u b : ℕ} {m₀ : List ℕ} {t₀ : Sums} {m path waits : List ℕ} {waiting : ℕ} {t : Sums} {slot place kind depth : ℕ}
    (C : Coming Ed G f d u b m₀ t₀ m path waits waiting t slot place kind depth) where
  pub come_entry : Entry f slot kind place
  come_entry = entry_made C.kind_is C.place_is

  -- the slot is refused, and so is all
  pub come_refused : {m' : List ℕ} → Fails (TreeItems Ed f (take depth path) slot) d u b m t → Told G G f d u b m₀ t₀ m' None
  come_refused {m'} h = C.leads m' None (told_no (row_fails h))

  -- it was a Prefix
  pub come_prefix : {now m' : List ℕ} {k : walk.Inner} → Kept depth path now → PrefixLeads f (take depth path) depth slot d u b m t now m' k
      → Coming Ed G f d u b m₀ t₀ m' now waits waiting k.sums k.slot k.entry.place k.entry.high k.depth
  come_prefix {now} {m'} {k} K L =
      record {
        ways = C.ways;
        kind_is = L.kind_is;
        place_is = L.place_is;
        small = L.small;
        first = L.first;
        last = L.last;
        other = L.other;
        short = let h = L.short in omega arith;
        tally = L.tally;
        height = C.height;
        counted = let h = C.counted in let l = L.more in omega arith;
        noted = noted_deeper f u b now waits depth k.depth C.ways L.deeper (noted_path f u b path waits now depth C.ways K.same C.noted);
        leads = λ m'' r T. C.leads m'' r (opens_told (row_opens (L.opens Ed)) T);
      }

  -- it was an inner node
  pub come_node : {m' : List ℕ} {k : Sums} {n : ℕ} → NodeOpened f (length path) depth kind place d u b m t m' k → ((ks : List (ℕ × ℕ)) → InnerAt f place kind ks → n ≡ length ks)
      → Walking Ed G f d u b m₀ t₀ m' path waits waiting k slot place kind depth n 0 0
  come_node N count =
      let I = N.node in
      record {
        kids = I.kids;
        ways = C.ways;
        node = I.is;
        entry = come_entry;
        first = C.first;
        last = C.last;
        room = N.room;
        short = N.short;
        tally = N.tally;
        count = count I.kids I.is;
        few = few_kids I I.is;
        inside = omega arith;
        reached = reached_start I.kids;
        low = omega arith;
        height = C.height;
        counted = let h = C.counted in let l = N.more in omega arith;
        noted = C.noted;
        leads = λ m'' r T. C.leads m'' r (opens_told (row_opens (N.of Ed (take depth path) slot come_entry C.first C.last)) T);
      }

module _ {Ed : Edition} {G : List Item → Type 0} {f : List ℕ} {d u b : ℕ} {m₀ : List ℕ} {t₀ : Sums} {m path waits : List ℕ} {waiting : ℕ} {t : Sums} {slot place kind depth n i from : ℕ}
    (W : Walking Ed G f d u b m₀ t₀ m path waits waiting t slot place kind depth n i from) where
  -- fewer nodes wait than there are lengths of paths
  pub walk_room : waiting < length path
  walk_room = let h = W.height in let l = noted_few f u b path waits depth W.ways W.noted in let k = W.short in omega arith

  -- and fewer than there are slots
  pub walk_few : waiting < u
  walk_few = let h = W.counted in let l = W.tally.slots in omega arith

  -- all is counted
  pub walk_end : n ≤ i → waiting ≡ 0 → Told G G f d u b m₀ t₀ m (Some t)
  unfolding Waiting
  walk_end h e = go W.ways (W.height ∙ refl) W.leads
    where
      go : (ws : List Way) → waiting ≡ length ws → Leads (Row (Rest Ed f (take depth path) place kind W.kids i) (Waiting Ed f ws)) (Row (Rest Ed f (take depth path) place kind W.kids i) (Waiting Ed f ws)) G G f d u b m t m₀ t₀ → Told G G f d u b m₀ t₀ m (Some t)
      go (w ∷ ws) p L = absurd (omega arith)
      go [] p L =
          let a = W.inside in
          let c = W.count in
          L m (Some t) (told_yes (record { items = []; are = record { first = []; rest = []; head = rest_none {i = i} W.kids (omega arith); tail = refl; are = refl }; grown = grown_none; sited = tt; tally = W.tally }))

  module _ {c k : ℕ} (below : i < n) (ec : c ≡ byte_in W.kids i) (ek : k ≡ child_in W.kids i) where
    child_below : i < length W.kids
    child_below = let e = W.count in omega arith

    -- the path to the child
    pub child_path : take (depth + 1) (set path depth c) ≡ take depth path ++ c ∷ []
    child_path = let h = W.short in path_byte path c {depth = depth} {p = path} (omega arith) (record { same = refl })

    -- the child is refused, and so is all
    pub walk_refused : {m' : List ℕ} → Fails (TreeItems Ed f (take (depth + 1) (set path depth c)) k) d u b m t → Told G G f d u b m₀ t₀ m' None
    walk_refused {m'} h =
        W.leads m' None
        (told_no
        (row_fails (λ is B zs R Y. row_fails h is B zs (rest_first W.kids child_below ec ek child_path refl zs R) Y)))

    -- it was a Leaf
    pub walk_leaf : {m' : List ℕ} {r : Option Sums} {t' : Sums} {next to : ℕ} → Told (TreeItems Ed f (take (depth + 1) (set path depth c)) k) (TreeItems Ed f (take (depth + 1) (set path depth c)) k) f d u b m t m' r → r ≡ Some t' → next ≡ i + 1 → to ≡ c + 1 → c < 256
        → Walking Ed G f d u b m₀ t₀ m' (set path depth c) waits waiting t' slot place kind depth n next to
    walk_leaf {m'} {r} {t'} {next} {to} T g en et hc =
        let e = W.count in
        let same : take depth (set path depth c) ≡ take depth path = take-set-le depth path depth c (omega arith) in
        record {
          kids = W.kids;
          ways = W.ways;
          node = W.node;
          entry = W.entry;
          first = W.first;
          last = W.last;
          room = W.room;
          short = let h = W.short in simp length-set h;
          tally = (T.holds t' g).tally;
          count = e;
          few = W.few;
          inside = omega arith;
          reached = rw (en, et, ec) (reached_next W.kids i (inner_asc f place kind W.kids W.node) child_below);
          low = omega arith;
          height = W.height;
          counted = let h = W.counted in let l = (tree_more T g).0 in omega arith;
          noted = noted_path f u b path waits (set path depth c) depth W.ways same W.noted;
          leads = λ m'' r K. W.leads m'' r (opens_told (row_opens (opens_on (opens_as (rest_join W.kids child_below ec ek child_path en) (rest_first W.kids child_below ec ek child_path en)) (tree_opens T g))) (rw same at K));
        }

    -- the walk goes down, and the node waits
    pub walk_down : {wait high at next deep : ℕ} → c < 256 → length path ≤ 512 → waiting < length waits → wait ≡ wait_of slot depth i → high ≡ high_of f k → at ≡ place_of f k → at < 1048576 → 1 ≤ k → k ≤ u → (high ≡ 1 → ⊥) → next ≡ waiting + 1 → deep ≡ depth + 1
        → Coming Ed G f d u b m₀ t₀ m (set path depth c) (set waits waiting wait) next t k at high deep
    unfolding AllNoted Waiting
    walk_down {wait} {high} {at} {next} {deep} hb hp hw ew ek' eo small one last other en edeep =
        let hs = W.short in
        let height = W.height in
        let count = W.count in
        let few = W.few in
        let now = set path depth c in
        let same : take depth now ≡ take depth path = take-set-le depth path depth c (omega arith) in
        let there : get_or now depth 0 ≡ c = get_or-set_same path depth c 0 (omega arith) in
        let w : Way = record { slot = slot; place = place; kind = kind; depth = depth; next = i + 1; path = take depth path; kids = W.kids } in
        let j = length W.ways in
        let e : get_or (set waits waiting wait) j 0 ≡ wait_of slot depth i = ap (λ (x : ℕ). get_or (set waits waiting wait) x 0) (sym height) ∙ get_or-set_same waits waiting wait 0 hw ∙ ew in
        let et : turn_in (get_or (set waits waiting wait) j 0) ≡ i = ap turn_in e ∙ wait_turn slot depth i (omega arith) (omega arith) in
        let N : Noted f u b now (set waits waiting wait) j w = record {
          node = W.node;
          entry = W.entry;
          first = W.first;
          last = W.last;
          room = W.room;
          slot_is = ap slot_in e ∙ wait_slot slot depth i (omega arith) (omega arith);
          depth_is = ap depth_in e ∙ wait_depth slot depth i (omega arith) (omega arith);
          next_is = rw et;
          inside = rw et child_below;
          led = same;
          byte = rw et (there ∙ ec);
          small = rw there hb;
          few = few;
        } in
        record {
          ways = w ∷ W.ways;
          kind_is = ek';
          place_is = eo;
          small = small;
          first = one;
          last = last;
          other = other;
          short = simp length-set (omega arith);
          tally = W.tally;
          height = omega arith;
          counted = let h = W.counted in omega arith;
          noted = (N, omega arith, noted_kept f u b now waits waiting wait depth W.ways (omega arith) (noted_path f u b path waits now depth W.ways same W.noted));
          leads = λ m'' r T. W.leads m'' r (opens_told (opens_on (row_opens (opens_as (rest_join W.kids child_below ec ek child_path refl) (rest_first W.kids child_below ec ek child_path refl))) (opens_as row_move row_back)) (rw edeep at T));
        }

  -- the node that waits
  pub walk_above : (top : ℕ) → waiting ≡ top + 1 → Above f u b path (get_or waits top 0) depth
  unfolding AllNoted
  walk_above top ew = go W.ways W.height W.noted
    where
      go : (ws : List Way) → waiting ≡ length ws → AllNoted f u b path waits depth ws → Above f u b path (get_or waits top 0) depth
      go [] p A = absurd (omega arith)
      go (w ∷ ws) p A =
          let N = A.0 in
          let l = A.1 in
          let e : top ≡ length ws = omega arith in
          let es : slot_in (get_or waits top 0) ≡ w.slot = ap (λ (k : ℕ). slot_in (get_or waits k 0)) e ∙ N.slot_is in
          let ed : depth_in (get_or waits top 0) ≡ w.depth = ap (λ (k : ℕ). depth_in (get_or waits k 0)) e ∙ N.depth_is in
          let r = node_room N.node N.room in
          record { first = rw es N.first; last = rw es N.last; less = omega arith; room = rw (es, N.entry.place_is) r; least = rw (es, N.entry.kind_is) N.node.range.0; most = rw (es, N.entry.kind_is) N.node.range.1; turn = rw e (let h = N.inside in let k = N.few in omega arith); byte = rw ed N.small }

  -- after the last child the walk goes back to the node that waits
  pub walk_back : {top back deep turn high at count to : ℕ} → n ≤ i → waiting ≡ top + 1 → back ≡ slot_in (get_or waits top 0) → deep ≡ depth_in (get_or waits top 0) → turn ≡ turn_in (get_or waits top 0) + 1 → to ≡ get_or path deep 0 + 1 → high ≡ high_of f back → at ≡ place_of f back
      → ((kind : ℕ) (ks : List (ℕ × ℕ)) → InnerAt f at kind ks → count ≡ length ks)
      → (deep < depth) × Walking Ed G f d u b m₀ t₀ m path waits top t back at high deep count turn to
  unfolding AllNoted Waiting
  walk_back {top} {back} {deep} {turn} {high} {at} {count} {to} done ew hs hd ht ho hh ha hc = go W.ways W.height W.noted W.leads
    where
      go : (ws : List Way) → waiting ≡ length ws → AllNoted f u b path waits depth ws
          → Leads (Row (Rest Ed f (take depth path) place kind W.kids i) (Waiting Ed f ws)) (Row (Rest Ed f (take depth path) place kind W.kids i) (Waiting Ed f ws)) G G f d u b m t m₀ t₀
          → (deep < depth) × Walking Ed G f d u b m₀ t₀ m path waits top t back at high deep count turn to
      go [] p A L = absurd (omega arith)
      go (w ∷ ws) p A L =
          let N = A.0 in
          let l = A.1 in
          let e : top ≡ length ws = omega arith in
          let es : back ≡ w.slot = hs ∙ ap (λ (k : ℕ). slot_in (get_or waits k 0)) e ∙ N.slot_is in
          let et : turn_in (get_or waits top 0) ≡ turn_in (get_or waits (length ws) 0) = ap (λ (k : ℕ). turn_in (get_or waits k 0)) e in
          let ed : deep ≡ w.depth = hd ∙ ap (λ (k : ℕ). depth_in (get_or waits k 0)) e ∙ N.depth_is in
          let en : turn ≡ w.next = ht ∙ ap (λ (k : ℕ). k + 1) et ∙ N.next_is in
          let eh : high ≡ w.kind = hh ∙ ap (λ (k : ℕ). high_of f k) es ∙ N.entry.kind_is in
          let ea : at ≡ w.place = ha ∙ ap (λ (k : ℕ). place_of f k) es ∙ N.entry.place_is in
          let ep : take deep path ≡ w.path = ap (λ (k : ℕ). take k path) ed ∙ N.led in
          let eb : to ≡ byte_in w.kids (turn_in (get_or waits (length ws) 0)) + 1 = ho ∙ ap (λ (k : ℕ). k + 1) (ap (λ (k : ℕ). get_or path k 0) ed ∙ N.byte) in
          let node : InnerAt f at high w.kids = rw (ea, eh) N.node in
          let count' = hc high w.kids node in
          let inside = N.inside in
          let short = W.short in
          let a = W.inside in
          let z = W.count in
          let E : Entry f back high at = record { kind_is = sym hh; place_is = sym ha } in
          let R : Reached w.kids turn to = rw (ht ∙ ap (λ (k : ℕ). k + 1) et, eb) (reached_next w.kids (turn_in (get_or waits (length ws) 0)) (inner_asc f at high w.kids node) inside) in (
            omega arith,
            record {
              kids = w.kids;
              ways = ws;
              node = node;
              entry = E;
              first = rw es N.first;
              last = rw es N.last;
              room = rw (ea, eh) N.room;
              short = omega arith;
              tally = W.tally;
              count = count';
              few = N.few;
              inside = omega arith;
              reached = R;
              low = let q = N.small in let v : to ≡ get_or path w.depth 0 + 1 = ho ∙ ap (λ (k : ℕ). get_or path k 0 + 1) ed in omega arith;
              height = e;
              counted = let h = W.counted in omega arith;
              noted = rw ed A.2;
              leads = λ m'' r T.
                  let T' : Told (Row (Rest Ed f w.path w.place w.kind w.kids w.next) (Waiting Ed f ws)) (Row (Rest Ed f w.path w.place w.kind w.kids w.next) (Waiting Ed f ws)) f d u b m t m'' r = rw (ep, ea, eh, en) at T in
                  L m'' r
                  (opens_told
                  (opens_as (λ xs x. record { first = []; rest = xs; head = rest_none {i = i} W.kids (omega arith); tail = x; are = refl })
                  (λ xs x. rw (x.are, rest_end {i = i} W.kids (omega arith) x.first x.head) x.tail))
                  T');
            },
          )
