-- Look-up at the end of a descent: where the value stands by the frame's tree, and that the state's value is what stands there.
-- Assumes nothing.
use Prim.Native.Nat.{ℕ, ◌+◌, ◌-◌, ◌≤◌}
use mathlib.Core.Path.{◌≡◌, refl, sym, ap, ◌∙◌}
use mathlib.Core.List.{List, [], ◌∷◌, ◌++◌}
use mathlib.Core.Bool.{Bool, true, false}
use Rattle.std.specs.Prelude.{Some, None}
use mathlib.Core.Option.{Option, none, some}
use native.Mathlib.Omega.{arith}
use lib.ListN.{length, get_or, take, drop}
use lib.Seq.{get_or-drop}
use lib.Dec.{eqb}
use borrow.Author.Tests.{ne_eqb}
use Rattle.layout.specs.Number.{le}
use Rattle.layout.specs.Kind.{number_of}
use Rattle.layout.specs.Place.{leaf_extent, leaf_value, leaf_stamp}
use Rattle.model.specs.Strings.{pick, same, shared}
use Rattle.model.specs.Edition.{Edition, Value, text_of}
use Rattle.model.specs.State.{State, find_in}
use Rattle.model.specs.Tree.{find_tree, find_kids}
use Rattle.model.specs.Body.{LeafAt}
use Rattle.model.specs.Frame.{Lay, LayKids, Root, bare, tree, art, art_kids, Tree, Trees, RootAt, root_art, Stands}
use Rattle.model.specs.Frame.Lay.{leaf, prefix, node}
use Rattle.model.specs.Frame.LayKids.{nil, kid}
use Rattle.model.specs.Visits.{visits_in}
use Rattle.model.specs.Touch.{Part, has_byte, find_lay, find_lay_kids, find_at}
use Rattle.model.specs.Promise.{found_of}
use Rattle.model.proofs.StringLaws.{bool_cases, eqb_cases, same_refl, same_true, clash}
use Rattle.model.proofs.ChainLaws.{find_atop, find_apart}
use Rattle.between.specs.Hole.{path_of}
use Rattle.between.proofs.TreeLaws.{leaf_parts, prefix_parts, node_parts, kid_parts}
use Rattle.between.proofs.KidsLaws.{look_none, not_byte}
use Rattle.between.proofs.LeadLaws.{plug_look}
use Rattle.descent.specs.declared.spot.End.TheVariants as end
use Rattle.descent.specs.declared.spot.Spot.{Spot}
use Rattle.descent.specs.declared.lookup.Located.{Located}
use Rattle.descent.specs.declared.lookup.Held.{Held}
use Rattle.descent.proofs.EndLaws.{by_end}
use Rattle.descent.specs.Spot.{Way, Spotted, InTree, SpotAt, Standing, Going}
use Rattle.descent.specs.Lookup.{value_in, Looked, shifted, Handed}
use Rattle.descent.proofs.SeatLaws.{text_right, Seat, hole, seated}
use Rattle.keys.proofs.KeyLaws.{text_part}

-- ---- the value stands where the tree with its places says

-- ---- at the end of a descent

seat_as : (f : List ℕ) (t u : Lay) → t ≡ u → Seat f t → Seat f u
seat_as f t u e S = rw e at S

-- ---- what is given

module _ (E : Edition) where
  module _ (f : List ℕ) where
    both : (t : Bool) (x y : Option Value) (p q : Option Part) → x ≡ value_in f p → y ≡ value_in f q → pick t x y ≡ value_in f (pick t p q)
    both true x y p q a b = a
    both false x y p q a b = b

    its_value : (path : List ℕ) (o e : ℕ) (k : List ℕ) (v : Value) → LeafAt f o e k v → some v ≡ value_in f (some (record { at = e + length k; long = length (text_of v); stamp = v.stamp }))
    its_value path o e k v L = ap (λ (t : List ℕ). some (record { bytes = t; stamp = v.stamp })) (sym (text_part f (e + length k) (text_of v) (omega (arith, L.room)) (text_right f e k (text_of v) L.text)))

    mutual
      pub value_lay : (path : List ℕ) (l : Lay) (d : ℕ) (k : List ℕ) → Tree E f path l → find_tree E (art l) d k ≡ value_in f (find_lay E l d k)
      value_lay path (leaf s o e k' v') d k T =
          both (same k k') (some v') none (some (record { at = e + length k'; long = length (text_of v'); stamp = v'.stamp })) none (its_value path o e k' v' (leaf_parts E f path s o e k' v' T).1.at) refl
      value_lay path (prefix s o p l) d k T =
          eqb_cases (shared p (drop d (E.walked k))) (length p)
          (λ t e. rw t (find_atop E p (art l) d k e ∙ value_lay (path ++ p) l (d + length p) k (prefix_parts E f path s o p l T).3))
          (λ t n. rw t (find_apart E p (art l) d k n))
      value_lay path (node s o kind ks) d k T = value_kids path ks d k (node_parts E f path s o kind ks T).2

      pub value_kids : (path : List ℕ) (ks : LayKids) (d : ℕ) (k : List ℕ) → Trees E f path ks → find_kids E (art_kids ks) d k ≡ value_in f (find_lay_kids E ks d k)
      value_kids path nil d k T = refl
      value_kids path (kid c j l ks) d k T =
          let P = kid_parts E f path c j l ks T in
          both (eqb c (get_or (E.walked k) d 0)) (find_tree E (art l) (d + 1) k) (find_kids E (art_kids ks) d k) (find_lay E l (d + 1) k) (find_lay_kids E ks d k)
          (value_lay (path ++ c ∷ []) l (d + 1) k P.0) (value_kids path ks d k P.1)

    value_root : (r : Root) (k : List ℕ) → RootAt E f r → find_in E (root_art r) k ≡ value_in f (find_at E r k)
    unfolding RootAt
    value_root (bare s o) k R = refl
    value_root (tree l) k R = value_lay [] l 0 k R

  -- the value by the state is what stands there
  pub value_stands : {f : List ℕ} (k : List ℕ) {st : State} (W : Stands E f st) → find_in E st.tree k ≡ value_in f (find_at E W.root k)
  value_stands {f} k W = ap (λ s. find_in E s.tree k) W.state ∙ value_root f W.root k W.root_at

  pub spot_going : {f k : List ℕ} {st : State} {s : Spot} (W : Stands E f st) → InTree E k W.root s → Going E f k s
  spot_going {f} {k} {st} W I = record { st = st; stands = W; lay = I.lay; is = I.is; way = I.spot.way }

  -- look-up goes on from there
  find_there : {k : List ℕ} {l : Lay} {s : Spot} (W : Way E k l s) (t : Lay) → W.sub ≡ t → find_lay E l 0 k ≡ find_lay E t s.depth k
  find_there {k} {l} {s} W t e =
      ap (λ x. find_lay E x 0 k) W.whole ∙ plug_look W.leads W.sub ∙ ap (λ x. find_lay E x (length (path_of W.steps)) k) e ∙ ap (λ n. find_lay E t n k) (sym W.deep)

  -- the Leaf of the key
  pub record Found (f k : List ℕ) (r : Root) (s : Spot) : Type 0 where
    pub extent : ℕ
    pub value : Value
    pub room : s.here.place + 16 ≤ length f
    pub at : LeafAt f s.here.place extent k value
    pub look : find_at E r k ≡ some (record { at = extent + length k; long = length (text_of value); stamp = value.stamp })

  tree_as : (f path : List ℕ) (t u : Lay) → t ≡ u → Tree E f path t → Tree E f path u
  tree_as f path t u e T = rw e at T

  pub found_leaf : {f k : List ℕ} {st : State} {s : Spot} (W : Stands E f st) → SpotAt E k W.root s → s.end ≡ end.Found → Found f k W.root s
  unfolding spot_going
  found_leaf {f} {k} {st} {s} W S e =
      let I = S.in_tree (λ z. clash (cc)) in
      let F = I.spot.found e in
      let G = spot_going W I in
      let t = leaf s.here.slot s.here.place F.extent k F.value in
      let path = path_of I.spot.way.steps in
      let T = tree_as f path I.spot.way.sub t F.is (hole E G).2 in
      let q = (leaf_parts E f path s.here.slot s.here.place F.extent k F.value T).1.at in
      let o = (seat_as f I.spot.way.sub t F.is (seated E G)).fits in
      let l : find_lay E t s.depth k ≡ some (record { at = F.extent + length k; long = length (text_of F.value); stamp = F.value.stamp }) = rw (same_refl k) refl in
      record { extent = F.extent; value = F.value; room = o; at = q; look = ap (λ r. find_at E r k) I.is ∙ find_there I.spot.way t F.is ∙ l }

  no_kid : (ks : LayKids) (d b : ℕ) (k : List ℕ) → get_or (E.walked k) d 0 ≡ b → has_byte b ks ≡ false → find_lay_kids E ks d k ≡ none
  no_kid nil d b k e h = refl
  no_kid (kid c j l ks) d b k e h =
      let m = not_byte b c (has_byte b ks) h in
      rw (ne_eqb c (get_or (E.walked k) d 0) (λ z. m.0 (z ∙ e))) (no_kid ks d b k e m.1)

  -- every other end
  module _ {k : List ℕ} {l : Lay} {s : Spot} (S : Spotted E k l s) where
    other_none : s.end ≡ end.Other → find_lay E l 0 k ≡ none
    other_none e =
        let F = S.other e in
        let z : same k F.key ≡ false = bool_cases (same k F.key) (λ t. absurd (F.differs (same_true k F.key t))) (λ t. t) in
        find_there S.way (leaf s.here.slot s.here.place F.extent F.key F.value) F.is ∙ rw z refl

    missing_none : s.end ≡ end.Missing → find_lay E l 0 k ≡ none
    missing_none e =
        let F = S.missing e in
        let w = E.walked k in
        let z : s.depth + 0 ≡ s.depth = omega arith in
        let b : get_or w s.depth 0 ≡ F.byte = ap (λ n. get_or w n 0) (sym z) ∙ sym (get_or-drop s.depth w 0 0) ∙ ap (λ x. get_or x 0 0) F.next in
        find_there S.way (node s.here.slot s.here.place (number_of s.here.kind) F.kids) F.is ∙ no_kid F.kids s.depth F.byte k b (look_none F.byte F.kids F.absent)

    parted_none : s.end ≡ end.Parted → find_lay E l 0 k ≡ none
    parted_none e =
        let F = S.parted e in
        let z : eqb (shared F.bytes (drop s.depth (E.walked k))) (length F.bytes) ≡ false = ne_eqb (shared F.bytes (drop s.depth (E.walked k))) (length F.bytes) (λ y. omega (arith, F.shares, F.less)) in
        find_there S.way (prefix s.here.slot s.here.place F.bytes F.below) F.is ∙ rw z refl

  pub spot_none : {k : List ℕ} {r : Root} {s : Spot} → SpotAt E k r s → (s.end ≡ end.Found → ⊥) → find_at E r k ≡ none
  spot_none {k} {r} {s} S n =
      let I = S.in_tree in
      let there : (y : s.end ≡ end.Empty → ⊥) → find_lay E (I y).lay 0 k ≡ none → find_at E r k ≡ none = λ y e. ap (λ x. find_at E x k) (I y).is ∙ e in
      by_end s.end (λ e. absurd ((I (λ z. clash (cc))).spot.range.0 e)) (λ e. ap (λ x. find_at E x k) (S.empty e)) (λ e. absurd (n e))
      (λ e. let y : s.end ≡ end.Empty → ⊥ = λ z. clash (cc) in there y (other_none (I y).spot e))
      (λ e. let y : s.end ≡ end.Empty → ⊥ = λ z. clash (cc) in there y (missing_none (I y).spot e))
      (λ e. let y : s.end ≡ end.Empty → ⊥ = λ z. clash (cc) in there y (parted_none (I y).spot e))

  module _ {f k : List ℕ} {s : Spot} (D : (st : State) (W : Stands E f st) → SpotAt E k W.root s) where
    pub looked_none : (s.end ≡ end.Found → ⊥) → (st : State) (W : Stands E f st) → Looked E f k st W.root (record { slots = s.visited; value = None })
    looked_none n st W =
        let e = spot_none (D st W) n in
        record { at = sym e; value = value_stands k W ∙ ap (value_in f) e; inside = tt; visited = (D st W).visited }

    pub looked_some : (x n t : ℕ) → s.end ≡ end.Found → x ≡ le 4 f (s.here.place + leaf_extent) → n ≡ le 2 f (s.here.place + leaf_value) → t ≡ le 8 f (s.here.place + leaf_stamp)
        → (st : State) (W : Stands E f st) → Looked E f k st W.root (record { slots = s.visited; value = Some (record { place = x + length k; length = n; stamp = t }) })
    looked_some x n t e p q r st W =
        let F = found_leaf W (D st W) e in
        let a : x ≡ F.extent = p ∙ F.at.extent in
        let b : n ≡ length (text_of F.value) = q ∙ F.at.value_length in
        let d : t ≡ F.value.stamp = r ∙ F.at.stamp in
        let c : find_at E W.root k ≡ some (record { at = x + length k; long = n; stamp = t }) = rw (a, b, d) F.look in
        record { at = sym c; value = value_stands k W ∙ ap (value_in f) c; inside = omega (arith, F.at.room); visited = (D st W).visited }

  -- the value as a part of the frame
  module _ {f k : List ℕ} {st : State} {r : Root} {v : Held} (L : Looked E f k st r v) (start : ℕ × ℕ) where
    pub value_fits : (w : Located) → v.value ≡ Some w → w.place + w.length ≤ length f
    value_fits w e = rw e at L.inside

    pub value_part : (w : Located) → v.value ≡ Some w → Handed f start (found_of (find_at E r k) (visits_in E (root_art r) k)) (shifted start w.place) (take (w.place + w.length - w.place) (drop w.place f))
    value_part w e =
        let n : w.place + w.length - w.place ≡ w.length = omega arith in
        rw (← L.at, e, n) (record { stands = refl; bytes = refl })

    pub value_none : {here : ℕ × ℕ} {part : List ℕ} → v.value ≡ None → here ≡ shifted start 0 → part ≡ [] → Handed f start (found_of (find_at E r k) (visits_in E (root_art r) k)) here part
    value_none e h p = rw (← L.at, e) (record { stands = h; bytes = p })

-- the Leaf of the key has its room, whatever the edition is called
pub found_room : {E E' : Edition} {f k : List ℕ} {s : Spot} → E' ≡ E → Standing E f → ((st : State) (W : Stands E' f st) → SpotAt E' k W.root s) → s.end ≡ end.Found → s.here.place + 16 ≤ length f
found_room {E} {E'} {f} e Z D q =
    let y : Standing E' f = rw e Z in
    (found_leaf E' y.stands (D y.st y.stands) q).room
