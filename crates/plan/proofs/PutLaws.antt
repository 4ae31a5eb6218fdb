-- A put does what stands at the end of its descent, and the plan's needs are its takes and its extent. Assumes nothing.
use Prim.Native.Nat.{ℕ, zero, suc, ◌+◌, ◌-◌, ◌<◌, ◌≤◌}
use mathlib.Core.Path.{◌≡◌, refl, sym, ap, ◌∙◌}
use mathlib.Core.List.{List, [], ◌∷◌, ◌++◌, map}
use mathlib.Core.Bool.{Bool, true, false}
use native.Mathlib.Omega.{arith}
use lib.ListN.{length, get_or, set, drop, length-append, length-drop}
use lib.Seq.{get_or-drop}
use lib.Dec.{ltb, eqb}
use borrow.Author.Tests.{eq-eqb, ne_eqb, lt-ltb, le-ltb}
use Rattle.layout.specs.Number.{le}
use Rattle.layout.specs.Place.{leaf_value}
use Rattle.layout.specs.Kind.{number_of, prefix_kind, node4_kind, body_size, most, kind_up}
use Rattle.model.specs.Strings.{pick, same, shared}
use Rattle.model.specs.Edition.{Edition, Value, text_of}
use Rattle.model.specs.Tree.{Art, Change, over, up8, extent_of, chain, prefixes, put_leaf, cut_prefix, put_tree}
use Rattle.model.specs.State.{State, kinds, tally, put_in, put_change}
use Rattle.model.specs.Item.{body}
use Rattle.model.specs.Body.{InnerAt, PrefixAt}
use Rattle.model.specs.Frame.{Lay, tree, slot_of, Below, art, pairs, root_art, Tree, Stands}
use Rattle.model.specs.Frame.Lay.{leaf, prefix, node}
use Rattle.model.proofs.StringLaws.{bool_cases, ltb_cases, same_refl, same_true, shared_left, clash}
use Rattle.model.proofs.ChainLaws.{as_some, shared_off}
use Rattle.inner.proofs.InnerLaws.{inner_room, inner_asc}
use Rattle.room.specs.declared.fit.Needs.{Needs}
use Rattle.room.specs.Fit.{Small, Asks}
use Rattle.room.proofs.FitLaws.{nine, asks_small}
use Rattle.between.specs.Hole.{plug, path_of, art_in}
use Rattle.between.specs.Work.{Work}
use Rattle.between.proofs.TreeLaws.{leaf_parts, node_parts}
use Rattle.between.proofs.HoleLaws.{art_plug}
use Rattle.between.proofs.KidsLaws.{look_none}
use Rattle.between.proofs.LeadLaws.{HangsIn, hangs_in, plug_put, node_put, node_grow}
use Rattle.between.proofs.WorkLaws.{stands_tree, stands_view, work_of, work_open, open_prefix, forest_first}
use Rattle.chain.specs.Row.{bytes_of, tip_of}
use Rattle.chain.proofs.RunLaws.{below_not_leaf, run_art}
use Rattle.keys.proofs.WordLaws.{word_fits}
use Rattle.descent.specs.declared.spot.End.TheVariants as end
use Rattle.descent.specs.declared.spot.Spot.{Spot}
use Rattle.descent.specs.Spot.{Way, InTree, SpotAt, Going}
use Rattle.descent.proofs.EndLaws.{by_end}
use Rattle.descent.proofs.SeatLaws.{hole}
use Rattle.descent.proofs.LookLaws.{found_leaf}
use Rattle.plan.proofs.KidLaws.{full_up, byte_first}
use Rattle.plan.specs.Run.{Begun, BeginningAt}
use Rattle.plan.specs.Plan.{Bodies, PutFrom, with_leaf, fork_takes, grow_takes}
use Rattle.chain.proofs.LongLaws.{run_low, run_long_lem}

-- ---- needs of bodies

prefixes_long : (m : ℕ) → length (prefixes m) ≡ m
prefixes_long zero = refl
prefixes_long (suc m) = ap suc (prefixes_long m)

prefixes_own : (m : ℕ) → tally (prefixes m) prefix_kind ≡ m
prefixes_own zero = refl
prefixes_own (suc m) = ap suc (prefixes_own m)

prefixes_other : (m k : ℕ) → (prefix_kind ≡ k → ⊥) → tally (prefixes m) k ≡ 0
prefixes_other zero k n = refl
prefixes_other (suc m) k n = rw (ne_eqb prefix_kind k n) (prefixes_other m k n)

fork_tally : (m : ℕ) → set (map (tally (node4_kind ∷ [])) kinds) prefix_kind m ≡ map (tally (fork_takes m)) kinds
fork_tally m = rw (
  prefixes_other m 0 (λ z. omega arith),
  prefixes_other m 1 (λ z. omega arith),
  prefixes_own m,
  prefixes_other m 3 (λ z. omega arith),
  prefixes_other m 4 (λ z. omega arith),
  prefixes_other m 5 (λ z. omega arith),
  prefixes_other m 6 (λ z. omega arith),
  prefixes_other m 7 (λ z. omega arith),
  prefixes_other m 8 (λ z. omega arith),
) refl

few : {n : Needs} {takes : List ℕ} → Asks n takes 0 → length takes < 65536 → Bodies n takes
few A l = record { asks = A; small = asks_small A l (omega arith) }

module _ {n : Needs} where
  -- a Node4, and as many Prefixes as are written to their place
  pub fork_many : (r : Needs) (m : ℕ) → Asks n (node4_kind ∷ []) 0 → r.bodies ≡ set n.bodies prefix_kind m → r.extent ≡ n.extent → m < 65535 → Bodies r (fork_takes m)
  fork_many r m A e x l =
      few (record { bodies = e ∙ ap (λ (y : List ℕ). set y prefix_kind m) A.bodies ∙ fork_tally m; extent = x ∙ A.extent }) (omega (arith, prefixes_long m))

  pub grow_stays : (m kind : ℕ) → m < most kind → Asks n [] 0 → Bodies n (grow_takes m kind)
  grow_stays m kind l A = rw (lt-ltb m (most kind) l) (few A (omega arith))

  pub grow_up : (m kind up : ℕ) → most kind ≤ m → up ≡ kind_up kind → Asks n (up ∷ []) 0 → Bodies n (grow_takes m kind)
  grow_up m kind up l e A = rw (le-ltb m (most kind) l, ← e) (few A (omega arith))

  pub same_length : (a b x : ℕ) → a ≡ b → Asks n [] 0 → Asks n [] (pick (eqb a b) 0 x)
  same_length a b x e A = rw (eq-eqb a b e) A

  pub other_length : (a b x : ℕ) → (a ≡ b → ⊥) → Asks n [] x → Asks n [] (pick (eqb a b) 0 x)
  other_length a b x e A = rw (ne_eqb a b e) A

  -- with the extent's size by its name
  pub sized : {takes : List ℕ} {x y : ℕ} → x ≡ y → Asks n takes x → Asks n takes y
  sized e A = rw (← e) A

  pub sized_if : (b : Bool) (x y : ℕ) → x ≡ y → Asks n [] (pick b 0 x) → Asks n [] (pick b 0 y)
  sized_if b x y e A = rw (← e) A

-- needs of a put are small
module _ {n : Needs} where
  pub small_found : (b : Bool) (x : ℕ) → Asks n [] (pick b 0 x) → x < 4294967296 → Small n
  small_found true x A l = asks_small A (omega arith) (omega arith)
  small_found false x A l = asks_small A (omega arith) l

  pub small_new : {takes : List ℕ} {x : ℕ} → Asks n (with_leaf takes) x → length takes < 65535 → x < 4294967296 → Small n
  small_new A l m = asks_small A (omega arith) m

pub fork_few : (m : ℕ) → m < 65534 → length (fork_takes m) < 65535
fork_few m l = omega (arith, prefixes_long m)

pub grow_few : (m kind : ℕ) → length (grow_takes m kind) < 65535
grow_few m kind = go (ltb m (most kind))
  where
    go : (b : Bool) → length (pick b [] (kind_up kind ∷ [])) < 65535
    go true = omega arith
    go false = omega arith

-- ---- the change of a put is that of the subtree where the descent ended

root_tree : {E : Edition} {f : List ℕ} (k : List ℕ) (v : Value) {st : State} (W : Stands E f st) → put_change E st k v ≡ put_in E (root_art W.root) k v
root_tree {E} k v W = ap (λ s. put_in E s.tree k v) W.state

put_there : {E : Edition} {k : List ℕ} {l : Lay} {s : Spot} (v : Value) (W : Way E k l s) (t : Lay) → HangsIn W.steps (art W.sub) → W.sub ≡ t → put_tree E (art l) 0 k v ≡ over (art_in W.steps) (put_tree E (art t) s.depth k v)
put_there {E} {k} {l} {s} v W t H e =
    ap (λ x. put_tree E x 0 k v) (ap art W.whole ∙ art_plug W.steps W.sub) ∙ plug_put W.leads v (art W.sub) H
    ∙ ap (λ x. over (art_in W.steps) (put_tree E (art x) (length (path_of W.steps)) k v)) e
    ∙ ap (λ n. over (art_in W.steps) (put_tree E (art t) n k v)) (sym W.deep)

-- the needs of a change
abbrev pub AsksFor : {A : Type 0} → Needs → Change A → Type 0
AsksFor n c = Asks n c.takes c.extent

asks_as : {A B : Type 0} {n : Needs} (g : A → B) (c : Change B) (d : Change A) → c ≡ over g d → Asks n d.takes d.extent → Asks n c.takes c.extent
asks_as g c d e A = rw e A

asks_there : {E : Edition} {f k : List ℕ} {st : State} {s : Spot} {n : Needs} (v : Value) (W : Stands E f st) (I : InTree E k W.root s) (t : Lay) → I.spot.way.sub ≡ t → (d : Change Art) → put_tree E (art t) s.depth k v ≡ d
    → Asks n d.takes d.extent → AsksFor n (put_change E st k v)
asks_there {E} {f} {k} {st} {s} v W I t e d q A =
    let w = I.spot.way in
    let H = hangs_in E f w.steps w.sub (stands_tree W (plug w.steps w.sub) (I.is ∙ ap tree w.whole)) in
    asks_as (art_in I.spot.way.steps) (put_change E st k v) d
    (root_tree k v W ∙ ap (λ r. put_in E (root_art r) k v) I.is ∙ put_there v I.spot.way t H e ∙ ap (over (art_in I.spot.way.steps)) q) A

-- ---- by the end of the descent

tree_as : (E : Edition) (f path : List ℕ) (t u : Lay) → t ≡ u → Tree E f path t → Tree E f path u
tree_as E f path t u e T = rw e at T

module _ {E : Edition} {f k : List ℕ} {st : State} {s : Spot} (W : Stands E f st) (S : SpotAt E k W.root s) where
  -- the subtree stands
  stands_there : (I : InTree E k W.root s) (t : Lay) → I.spot.way.sub ≡ t → Tree E f (path_of I.spot.way.steps) t
  stands_there I t e =
      let G : Going E f k s = record { st = st; stands = W; lay = I.lay; is = I.is; way = I.spot.way } in
      tree_as E f (path_of I.spot.way.steps) I.spot.way.sub t e (hole E G).2

  pub asks_empty : {n : Needs} (v : Value) → s.end ≡ end.Empty → Asks n (with_leaf []) (extent_of k v) → AsksFor n (put_change E st k v)
  asks_empty v e A = rw (root_tree k v W ∙ ap (λ r. put_in E (root_art r) k v) (S.empty e)) A

  pub asks_found : {n : Needs} (v : Value) (m : ℕ) → s.end ≡ end.Found → m ≡ le 2 f (s.here.place + leaf_value) → Asks n [] (pick (eqb (length (text_of v)) m) 0 (extent_of k v)) → AsksFor n (put_change E st k v)
  asks_found {n} v m e q A =
      let I = S.in_tree (λ z. clash (cc)) in
      let F = I.spot.found e in
      let t = leaf s.here.slot s.here.place F.extent k F.value in
      let L = (leaf_parts E f (path_of I.spot.way.steps) s.here.slot s.here.place F.extent k F.value (stands_there I t F.is)).1.at in
      let y : m ≡ length (text_of F.value) = q ∙ L.value_length in
      let B : Asks n [] (pick (eqb (length (text_of v)) (length (text_of F.value))) 0 (extent_of k v)) = rw y at A in
      asks_there v W I t F.is (replaced (eqb (length (text_of v)) (length (text_of F.value))) F.value) (rw (same_refl k) refl) (both (eqb (length (text_of v)) (length (text_of F.value))) F.value B)
    where
      replaced : Bool → Value → Change Art
      replaced b v' =
          pick b (record { now = Art.leaf k v; takes = []; frees = []; extent = 0; dead = 0; fresh = false })
          (record { now = Art.leaf k v; takes = []; frees = []; extent = extent_of k v; dead = extent_of k v'; fresh = false })

      both : (b : Bool) (v' : Value) → Asks n [] (pick b 0 (extent_of k v)) → AsksFor n (replaced b v')
      both true v' A = A
      both false v' A = A

  pub asks_other : {n : Needs} (v : Value) (m : ℕ) → s.end ≡ end.Other → m ≡ chain s.shared → Asks n (with_leaf (fork_takes m)) (extent_of k v) → AsksFor n (put_change E st k v)
  asks_other v m e em A =
      let I = S.in_tree (λ z. clash (cc)) in
      let F = I.spot.other e in
      let t = leaf s.here.slot s.here.place F.extent F.key F.value in
      let q : chain (shared (drop s.depth (E.walked k)) (drop s.depth (E.walked F.key))) ≡ m = sym (em ∙ ap chain F.shares) in
      let z : same k F.key ≡ false = bool_cases (same k F.key) (λ t. absurd (F.differs (same_true k F.key t))) (λ t. t) in
      asks_there v W I t F.is (put_leaf E s.depth k v F.key F.value) refl (rw (z, q) A)

  pub node_there : s.end ≡ end.Missing → (ks : List (ℕ × ℕ)) × InnerAt f s.here.place (number_of s.here.kind) ks
  node_there e =
      let I = S.in_tree (λ z. clash (cc)) in
      let F = I.spot.missing e in
      (pairs F.kids, (node_parts E f (path_of I.spot.way.steps) s.here.slot s.here.place (number_of s.here.kind) F.kids (stands_there I (node s.here.slot s.here.place (number_of s.here.kind) F.kids) F.is)).1.inner)

  pub asks_missing : {n : Needs} (v : Value) (m : ℕ) → s.end ≡ end.Missing → ((ks : List (ℕ × ℕ)) → InnerAt f s.here.place (number_of s.here.kind) ks → m ≡ length ks) → Asks n (with_leaf (grow_takes m (number_of s.here.kind))) (extent_of k v) → AsksFor n (put_change E st k v)
  asks_missing {n} v m e q A =
      let I = S.in_tree (λ z. clash (cc)) in
      let F = I.spot.missing e in
      let t = node s.here.slot s.here.place (number_of s.here.kind) F.kids in
      let N = (node_parts E f (path_of I.spot.way.steps) s.here.slot s.here.place (number_of s.here.kind) F.kids (stands_there I t F.is)).1.inner in
      let w = E.walked k in
      let z : s.depth + 0 ≡ s.depth = omega arith in
      let b : get_or w s.depth 0 ≡ F.byte = ap (λ i. get_or w i 0) (sym z) ∙ sym (get_or-drop s.depth w 0 0) ∙ ap (λ x. get_or x 0 0) F.next in
      let absent = look_none F.byte F.kids F.absent in
      let y : m ≡ length (pairs F.kids) = q (pairs F.kids) N in
      ltb_cases m (most (number_of s.here.kind))
      (λ l h. asks_there v W I t F.is _ (node_put E k v s.depth F.byte (number_of s.here.kind) F.kids b absent (omega arith)) (rw l at A))
      (λ l h. asks_there v W I t F.is _ (node_grow E k v s.depth F.byte (number_of s.here.kind) F.kids b absent (omega arith)) (rw l at A))

  -- the Prefix that is matched in part, and what stands below it
  pub parted_at : (I : InTree E k W.root s) (e : s.end ≡ end.Parted) → let F = I.spot.parted e in
      Work E f (stands_view W) I.spot.way.steps s.here.slot ((path_of I.spot.way.steps ++ F.bytes, F.below) ∷ []) (body s.here.slot prefix_kind s.here.place ∷ []) × PrefixAt f s.here.place F.bytes (slot_of F.below) × Below F.bytes F.below
  parted_at I e =
      let F = I.spot.parted e in
      let xs = I.spot.way.steps in
      let t = prefix s.here.slot s.here.place F.bytes F.below in
      let er : W.root ≡ tree (plug xs t) = I.is ∙ ap tree (I.spot.way.whole ∙ ap (plug xs) F.is) in
      open_prefix (path_of xs) [] [] s.here.slot s.here.place F.bytes F.below (work_open xs t [] (work_of W (plug xs t) er) refl).0

  -- and the shared beginning from there on is cut
  pub parted_put : (v : Value) (I : InTree E k W.root s) (e : s.end ≡ end.Parted) → let F = I.spot.parted e in
      put_tree E (art (prefix s.here.slot s.here.place F.bytes F.below)) s.depth k v ≡ cut_prefix E s.depth k v (F.bytes ++ bytes_of F.below) (art (tip_of F.below))
  parted_put v I e =
      let F = I.spot.parted e in
      let t = prefix s.here.slot s.here.place F.bytes F.below in
      let all = F.bytes ++ bytes_of F.below in
      let w = drop s.depth (E.walked k) in
      let l = length-append F.bytes (bytes_of F.below) in
      let z : eqb (shared all w) (length all) ≡ false = ne_eqb (shared all w) (length all) (λ y. omega (arith, whole_shared I e)) in
      ap (λ x. put_tree E x s.depth k v) ((run_art E f (path_of I.spot.way.steps) t (stands_there I t F.is) tt).0 ∙ as_some all (art (tip_of F.below)) (omega (arith, F.less))) ∙ rw z refl
    where
      whole_shared : (I : InTree E k W.root s) (e : s.end ≡ end.Parted) → let F = I.spot.parted e in (shared (F.bytes ++ bytes_of F.below) (drop s.depth (E.walked k)) ≡ s.shared) × (s.shared < length F.bytes)
      whole_shared I e =
          let F = I.spot.parted e in
          let w = drop s.depth (E.walked k) in
          (shared_off F.bytes (bytes_of F.below) w (λ y. omega (arith, F.shares, F.less)) ∙ sym F.shares, F.less)

  pub asks_parted : {n : Needs} (v : Value) (m long : ℕ) → s.end ≡ end.Parted → Begun f s.here.place long → m ≡ chain s.shared + chain (long - suc s.shared) - chain long → Asks n (with_leaf (fork_takes m)) (extent_of k v)
      → AsksFor n (put_change E st k v)
  asks_parted {n} v m long e B em A =
      let I = S.in_tree (λ z. clash (cc)) in
      let F = I.spot.parted e in
      let t = prefix s.here.slot s.here.place F.bytes F.below in
      let all = F.bytes ++ bytes_of F.below in
      let w = drop s.depth (E.walked k) in
      let P = parted_at I e in
      let el : long ≡ length all = B E (stands_view W) I.spot.way.steps s.here.slot (path_of I.spot.way.steps ++ F.bytes) F.bytes F.below [] (body s.here.slot prefix_kind s.here.place ∷ []) P.0 P.1 P.2
      ∙ omega (arith, length-append F.bytes (bytes_of F.below), run_long_lem F.below) in
      let eq : shared all w ≡ s.shared = shared_off F.bytes (bytes_of F.below) w (λ y. omega (arith, F.shares, F.less)) ∙ sym F.shares in
      let ed : length (drop (suc (shared all w)) all) ≡ long - suc s.shared = length-drop (suc (shared all w)) all ∙ omega arith in
      let z : chain (shared all w) + chain (length (drop (suc (shared all w)) all)) - chain (length all) ≡ m = sym (em ∙ ap (λ i. chain i + chain (long - suc s.shared) - chain long) (sym eq) ∙ ap (λ i. chain (shared all w) + chain i - chain long) (sym ed) ∙ ap (λ i. chain (shared all w) + chain (length (drop (suc (shared all w)) all)) - chain i) el) in
      asks_there v W I t F.is (cut_prefix E s.depth k v all (art (tip_of F.below))) (parted_put v I e) (rw z A)

-- ---- what the code counts on

inner_size : (kind : ℕ) → kind < 9 → 4 ≤ kind → kind ≤ 7 → 2 ≤ body_size kind
inner_size =
    nine (λ k. 4 ≤ k → k ≤ 7 → 2 ≤ body_size k) (λ a b. absurd (omega arith)) (λ a b. absurd (omega arith)) (λ a b. absurd (omega arith)) (λ a b. absurd (omega arith))
    (λ a b. omega arith) (λ a b. omega arith) (λ a b. omega arith) (λ a b. omega arith) (λ a b. absurd (omega arith))

-- the count of an inner node lies in the frame, and its kind in the tables
pub inner_fits : {f : List ℕ} {o kind : ℕ} (ks : List (ℕ × ℕ)) → InnerAt f o kind ks → (o + 2 ≤ length f) × (kind < 9)
inner_fits {f} {o} {kind} ks N = let r = N.range in (omega (arith, inner_room ks N, inner_size kind (omega arith) r.0 r.1), omega arith)

module _ {E : Edition} {f k v : List ℕ} {s : Spot} (P : PutFrom E f k v s) where
  pub size_fits : length k + length v < 4294967296
  size_fits = omega (arith, P.lawful.fields.keys k P.key, P.value)

  pub extent_fits : {x : ℕ} → x ≡ up8 (length k + length v) → x < 4294967296
  extent_fits e = omega (arith, P.lawful.fields.keys k P.key, P.value)

  pub leaf_room : s.end ≡ end.Found → s.here.place + 16 ≤ length f
  leaf_room e = (found_leaf E P.stands P.spot e).room

  pub node_room : s.end ≡ end.Missing → (s.here.place + 2 ≤ length f) × (number_of s.here.kind < 9)
  node_room e = let N = node_there P.stands P.spot e in inner_fits N.0 N.1

  -- where the node is full, there is a larger kind
  pub node_grows : s.end ≡ end.Missing → {m : ℕ} → ((ks : List (ℕ × ℕ)) → InnerAt f s.here.place (number_of s.here.kind) ks → m ≡ length ks) → most (number_of s.here.kind) ≤ m → 1 ≤ kind_up (number_of s.here.kind)
  unfolding node_there pairs
  node_grows e {m} q full =
      let F = (P.spot.in_tree (λ z. clash (cc))).spot.missing e in
      let N = node_there P.stands P.spot e in
      let n = q N.0 N.1 in
      full_up _ F.byte N.0 N.1.range.0 N.1.range.1 (inner_asc N.0 N.1) F.absent (byte_first s.depth (E.walked k) (P.lawful.bytes k P.key) F.next) (omega arith)

  -- two walked strings share no more than they have
  pub other_short : s.end ≡ end.Other → s.shared ≤ 512
  other_short e =
      let I = P.spot.in_tree (λ z. clash (cc)) in
      let F = I.spot.other e in
      omega (arith, F.shares, shared_left (drop s.depth (E.walked k)) (drop s.depth (E.walked F.key)), length-drop s.depth (E.walked k), word_fits P.lawful k P.key)

  module _ (e : s.end ≡ end.Parted) where
    abbrev inside : InTree E k P.stands.root s
    inside = P.spot.in_tree (λ z. clash (cc))

    abbrev pub beginning_at : BeginningAt f s.here.place
    beginning_at =
        let O = parted_at P.stands P.spot inside e in
        let F = inside.spot.parted e in
        let path = path_of inside.spot.way.steps in
        let T = (forest_first E f (path ++ F.bytes) F.below [] O.0.trees).0 in
        record {
          edition = E;
          view = stands_view P.stands;
          steps = inside.spot.way.steps;
          top = s.here.slot;
          path = path ++ F.bytes;
          bytes = F.bytes;
          below = F.below;
          trees = [];
          loose = _;
          work = O.0;
          at = O.1;
          hangs = O.2;
          short = omega (arith, run_low P.lawful f P.stands.bytes (path ++ F.bytes) F.below T (below_not_leaf F.bytes F.below O.2), length-append path F.bytes, run_long_lem F.below);
        }

    pub cut_fits : {m : ℕ} → Begun f s.here.place m → (s.shared < m) × (s.shared < 112) × (m < 65536)
    cut_fits {m} B =
        let A = beginning_at in
        let F = inside.spot.parted e in
        let q = B A.edition A.view A.steps A.top A.path A.bytes A.below A.trees A.loose A.work A.at A.hangs in
        (omega (arith, F.less), omega (arith, F.less, A.at.most), omega (arith, A.short))

  pub last_end : (s.end ≡ end.Found → ⊥) → (s.end ≡ end.Empty → ⊥) → (s.end ≡ end.Other → ⊥) → (s.end ≡ end.Missing → ⊥) → s.end ≡ end.Parted
  last_end a b c d =
      by_end s.end (λ e. absurd ((P.spot.in_tree b).spot.range.0 e)) (λ e. absurd (b e)) (λ e. absurd (a e)) (λ e. absurd (c e)) (λ e. absurd (d e)) (λ e. e)

-- a cut takes few Prefixes more
pub cut_few : (q m r : ℕ) → q < 112 → m < 65536 → r ≡ chain q + chain (m - suc q) - chain m → r < 65534
cut_few q m r h l e = omega arith
