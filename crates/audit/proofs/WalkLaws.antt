-- One law for each answer of the walk: what is refused, and what is left to be counted below a body. Assumes nothing.
use Prim.Native.Nat.{ℕ, suc, ◌+◌, ◌%◌, ◌<◌, ◌≤◌}
use mathlib.Core.Path.{◌≡◌, refl, sym, ap, ◌∙◌}
use mathlib.Core.List.{List, [], ◌∷◌, ◌++◌, head-eq_of_cons-eq, tail-eq_of_cons-eq}
use native.Mathlib.Omega.{arith}
use native.Mathlib.Numerals.{add-one}
use native.Mathlib.Decide.{ℕ_discrete}
use lib.ListN.{length, set, take, drop, length-append, length-take, length-drop}
use lib.Seq.{take-take, take-append-le, take-suc-set, drop-cons, ext_get_or, get_or-take, get_or-drop}
use lib.Dec.{eqb}
use Rattle.std.specs.Prelude.{Option, Some, None}
use Rattle.layout.specs.Number.{le, byte_at, Bytes}
use Rattle.layout.specs.Place.{prefix_child, prefix_length, node48_index}
use Rattle.layout.specs.Kind.{node48_kind}
use Rattle.layout.specs.Entry.{place_of, high_of}
use Rattle.model.specs.Strings.{pick}
use Rattle.model.specs.Edition.{Edition, Lawful}
use Rattle.model.specs.Tree.{extent_of}
use Rattle.model.specs.Item.{Item, body, extent, bulk, sum}
use Rattle.model.specs.Body.{Text, byte_in, child_in}
use Rattle.model.specs.Frame.{LayKids, slot_of, items, items_all, pairs, Entry, Places, Tree, Trees}
use Rattle.model.specs.Frame.LayKids.{nil, kid}
use Rattle.model.proofs.StringLaws.{clash}
use Rattle.model.proofs.ItemLaws.{sum_app, sum_cons}
use Rattle.model.proofs.UniqueLaws.{leaf_unique, prefix_unique, inner_unique}
use Rattle.claims.specs.Units.{place}
use Rattle.claims.proofs.UnitLaws.{extent_eighth}
use Rattle.shape.specs.declared.leaf.Extent.{Extent}
use Rattle.shape.specs.Shape.{PrefixHere, LeafHere, LeafTold}
use Rattle.shape_inner.specs.Inner.{InnerHere}
use Rattle.census.specs.declared.Sums.{Sums}
use Rattle.census.specs.Told.{Tidy, BodyTaken, BodyTold, ExtentTold, Told}
use Rattle.census.proofs.TakeLaws.{extent_in}
use Rattle.census.proofs.ToldLaws.{tidy_slot, tidy_part, told_no, body_sited, tally_body, body_slots}
use Rattle.audit.specs.declared.walk.Inner.{Inner}
use Rattle.audit.specs.Walk.{Live, BelowSlot, Kept, Extended, TreeItems, Below, RunItems, At, Fails, Opens, NodeOpened, NodeTold, PrefixLeads, PrefixTold}
use Rattle.audit.proofs.TreeLaws.{tree_first, leaf_of, leaf_is, prefix_of, prefix_is, node_of_lem, node_is, below_short, node_short, kind_node, below_kind, kind_below}
use Rattle.audit.proofs.OpenLaws.{opens_told, opens_fails, opens_on, opens_as}

-- ---- a slot

pub entry_made : {f : List ℕ} {s kind o : ℕ} → kind ≡ high_of f s → o ≡ place_of f s → Entry f s kind o
entry_made e h = record { kind_is = sym e; place_is = sym h }

-- the slot of a tidy tree
tree_slot : {Ed : Edition} {f path : List ℕ} {s d u b : ℕ} (xs is : List Item) → TreeItems Ed f path s xs → Tidy d u b (xs ++ is) → (1 ≤ s) × (s ≤ u)
tree_slot {Ed} {f} {path} {s} xs is T Y = let w = tree_first T in tidy_slot s (high_of f s) (place_of f s) (w.0 ++ is) (rw w.1 at Y)

tree_split : {Ed : Edition} {f path : List ℕ} {s kind o : ℕ} (zs : List Item) → Entry f s kind o → TreeItems Ed f path s zs → (ys : List Item) × Below Ed f path s kind o ys × (zs ≡ body s kind o ∷ ys)
tree_split {Ed} {f} {path} {s} {kind} {o} zs E T =
    let w = tree_first T in
    let q : zs ≡ body s kind o ∷ w.0 = rw (E.kind_is, E.place_is) at w.1 in (w.0, rw q at T, q)

module _ {Ed : Edition} {f path : List ℕ} {s d u b : ℕ} {m : List ℕ} {t : Sums} where
  pub slot_fails : (1 ≤ s → s ≤ u → ⊥) → Fails (TreeItems Ed f path s) d u b m t
  slot_fails h is B zs T Y = let w = tree_slot zs is T Y in h w.0 w.1

  pub kind_fails : {kind : ℕ} → kind ≡ high_of f s → (Live kind → ⊥) → Fails (TreeItems Ed f path s) d u b m t
  kind_fails e h is B zs T Y = h (rw e (tree_first T).2)

  module _ {kind o : ℕ} (E : Entry f s kind o) {m' : List ℕ} where
    pub body_fails : {r : Option Sums} → BodyTold d u b kind o m t m' r → r ≡ None → Fails (TreeItems Ed f path s) d u b m t
    body_fails T n is B zs W Y =
        let w = tree_split zs E W in
        let ys = w.0 in
        T.fails n is B s
        (tidy_part ys (body s kind o ∷ is) (λ v. omega (arith, sum_app v zs is, ap (sum v) w.2, sum_cons v (body s kind o) ys, sum_app v ys (body s kind o ∷ is), sum_cons v (body s kind o) is)) Y)

    pub body_opens : {t' : Sums} → BodyTaken d u b kind o m t m' t' → 1 ≤ s → s ≤ u → 1 ≤ kind → kind ≤ 8 → Opens (Below Ed f path s kind o) (TreeItems Ed f path s) f d u b m t m' t'
    body_opens T a z h l =
        record {
          items = body s kind o ∷ [];
          grown = T.grown s;
          sited = (body_sited s kind o a z E.place_is h l T.low T.high, tt);
          join = λ ys W. W;
          split = λ zs is Y W. tree_split zs E W;
        }

-- no kind below 4 but a Leaf's, a Prefix's and the one left out
pub few : {kind : ℕ} → 1 ≤ kind → (kind ≡ 1 → ⊥) → (kind ≡ 2 → ⊥) → (kind ≡ 3 → ⊥) → kind < 4 → ⊥
few {kind} a x y z h = elim (ℕ_discrete kind 1) [ yes q ↦ x q | no q ↦ elim (ℕ_discrete kind 2) [ yes r ↦ y r | no r ↦ z (omega arith) ] ]

-- nothing but a Prefix of the other kinds below 4 may stand below a Prefix
pub below_other : {f : List ℕ} {s u n kind : ℕ} → kind ≡ high_of f s → kind < 4 → (kind ≡ 2 → ⊥) → BelowSlot f s u n → ⊥
below_other {f} {s} {kind = kind} e h no2 p = few (omega (arith, p.low)) (λ q. omega (arith, p.low)) no2 (λ q. p.crossing (sym e ∙ q)) h

-- what stands at a place, of the slot that tells it
pub slot_at : {Ed : Edition} {f path : List ℕ} {s kind k o d u b : ℕ} {m : List ℕ} {t : Sums} {m' : List ℕ} {r : Option Sums} → kind ≡ high_of f s → o ≡ place_of f s → 1 ≤ s → s ≤ u → kind ≡ k
    → At Ed f path k o d u b m t m' r → Told (TreeItems Ed f path s) (TreeItems Ed f path s) f d u b m t m' r
slot_at {Ed} {f} {path} {s} ek eo a z e A = A.of s (entry_made (sym e ∙ ek) eo) a z

-- ---- a Leaf

pub leaf_whole : {Ed : Edition} {f path : List ℕ} {o d b e n : ℕ} → LeafHere Ed f path o d b e n → (e % 8 ≡ 0) × (n % 8 ≡ 0) × (e + n ≤ b)
leaf_whole L = let z = L.long in (L.is.eights, omega arith, L.high)

module _ {Ed : Edition} {f path : List ℕ} {o d u b : ℕ} {m : List ℕ} {t : Sums} {m' m'' : List ℕ} where
  pub leaf_body : {r : Option Sums} → BodyTold d u b 1 o m t m' r → r ≡ None → At Ed f path 1 o d u b m t m'' None
  leaf_body T n = record { of = λ s E a z. told_no (body_fails E T n) }

  module _ {t' : Sums} (T : BodyTaken d u b 1 o m t m' t') where
    pub leaf_bad : {x : Option Extent} → ((k : List ℕ) → Ed.key_fault k ≡ 0 → 1 ≤ length k) → LeafTold Ed f path o d b x → x ≡ None → At Ed f path 1 o d u b m t m'' None
    leaf_bad some L q =
        record {
          of = λ s E a z. told_no (opens_fails (body_opens E T a z (omega arith) (omega arith))
              (λ is B ys W Y.
              let M = leaf_of W in
              let n = extent_of M.key M.value in
              let j = some M.key M.of.legal in
              let Z : Tidy d u b (extent M.at n ∷ is) = rw M.are at Y in
              let i = extent_in M.at n is (omega arith) Z in
              L.fails q M.at n (record { key = M.key; value = M.value; is = M.of; long = refl; low = i.0; high = i.1 })));
        }

    pub leaf_on : {e n : ℕ} {r : Option Sums} → LeafHere Ed f path o d b e n → ExtentTold u e n m' t' m'' r → At Ed f path 1 o d u b m t m'' r
    unfolding place bulk
    leaf_on {e} {n} L X =
        let w = leaf_whole L in
        record {
          of = λ s E a z. opens_told (body_opens E T a z (omega arith) (omega arith)) (record {
            holds = λ q g. let Y = X.holds q g in record {
              items = extent e n ∷ [];
              are = rw L.long (leaf_is E L.is);
              grown = Y.grown;
              sited = (record { eighth = extent_eighth e n w.0 w.1; within = record { low = L.low; high = L.high }; slotted = tt }, tt);
              tally = Y.tally;
            };
            fails = λ q is B ys W Y.
                let M = leaf_of W in
                let z = leaf_unique f o M.at e M.key M.value L.key L.value M.of.at L.is.at in
                let Z : Tidy d u b (extent M.at (extent_of M.key M.value) ∷ is) = rw M.are at Y in
                let J : Tidy d u b (extent e n ∷ is) = rw (L.long, sym z.0, sym z.1, sym z.2) Z in
                X.fails q is B J.apart;
          });
        }

-- ---- a Prefix

-- the path, byte by byte
pub path_length : (p : List ℕ) (depth : ℕ) → depth ≤ length p → length (take depth p) ≡ depth
path_length p depth h = simp length-take (omega arith)

pub kept_same : {depth : ℕ} {p : List ℕ} → Kept depth p p
kept_same = record { same = refl }

-- a longer part is kept
kept_less : (depth n : ℕ) (p q : List ℕ) → take (depth + n) q ≡ take (depth + n) p → take depth q ≡ take depth p
kept_less depth n p q e = sym (take-take depth (depth + n) q (omega arith)) ∙ ap (λ (l : List ℕ). take depth l) e ∙ take-take depth (depth + n) p (omega arith)

pub kept_far : {f : List ℕ} {at depth n : ℕ} {p r q : List ℕ} → depth ≤ length p → Kept (depth + n) r q → Extended f at depth n p r → Kept depth p q
kept_far {f} {at} {depth} {n} {p} {r} {q} h K X =
    record {
      same = kept_less depth n r q K.same ∙ sym (take-take depth (depth + n) r (omega arith)) ∙ ap (λ (l : List ℕ). take depth l) X.is
          ∙ take-append-le depth (take depth p) (take n (drop at f)) (omega (arith, path_length p depth h)) ∙ take-take depth depth p (omega arith);
    }

pub path_byte : (r : List ℕ) (b : ℕ) {depth : ℕ} {p : List ℕ} → depth < length r → Kept depth p r → take (depth + 1) (set r depth b) ≡ take depth p ++ b ∷ []
path_byte r b {depth} {p} h K = ap (λ (n : ℕ). take n (set r depth b)) (add-one depth) ∙ take-suc-set r depth b h ∙ ap (λ (l : List ℕ). l ++ b ∷ []) K.same

-- what stands at a place, as a part of the frame
text_taken : (f : List ℕ) (o : ℕ) (p : List ℕ) → o + length p ≤ length f → Text f o p → take (length p) (drop o f) ≡ p
text_taken f o p h T =
    ext_get_or 0 (take (length p) (drop o f)) p (simp (length-take, length-drop) (omega arith))
    (λ i l. let k : i < length p = omega (arith, simp (length-take, length-drop) at l) in rw (get_or-take (length p) (drop o f) i 0 k, get_or-drop) (T i k))

pub path_on : {f : List ℕ} {o n depth : ℕ} {p q : List ℕ} (P : PrefixHere f o) → n ≡ le 2 f (o + prefix_length) → Extended f (o + 16) depth n p q → take (depth + n) q ≡ take depth p ++ P.bytes
path_on {f} {o} {n} {depth} {p} {q} P e X =
    let R = P.is in
    let r = R.room in
    let k = R.most in
    let z : n ≡ length P.bytes = e ∙ R.long in
    X.is ∙ ap (λ (l : List ℕ). take depth p ++ l) (ap (λ (v : ℕ). take v (drop (o + 16) f)) z ∙ text_taken f (o + 16) P.bytes (omega arith) R.text)

module _ {Ed : Edition} {f path : List ℕ} {s o d u b : ℕ} {m : List ℕ} {t : Sums} where
  pub prefix_bad : (PrefixHere f o → ⊥) → Fails (Below Ed f path s 2 o) d u b m t
  prefix_bad n is B ys W Y = let P = prefix_of W in n (record { bytes = P.bytes; child = slot_of P.lay; is = P.of })

  pub prefix_long : {n depth limit : ℕ} → Lawful Ed → Ed.longest ≤ limit → Bytes f → length path ≡ depth → n ≡ le 2 f (o + prefix_length) → limit ≤ depth + n → Fails (Below Ed f path s 2 o) d u b m t
  prefix_long {n} {depth} L w B l e h is K ys W Y =
      let P = prefix_of W in
      let z = P.of.long in
      omega (arith, below_short L f (path ++ P.bytes) P.bytes P.lay B P.below P.tree, length-append path P.bytes)

  pub prefix_child_lem : {c n : ℕ} → (BelowSlot f c u n → ⊥) → c ≡ le 4 f (o + prefix_child) → n ≡ le 2 f (o + prefix_length) → Fails (Below Ed f path s 2 o) d u b m t
  prefix_child_lem {c} {n} never e k is K ys W Y =
      let P = prefix_of W in
      let z : slot_of P.lay ≡ c = sym P.of.child ∙ sym e in
      let T : TreeItems Ed f (path ++ P.bytes) c ys = record { lay = P.lay; tree = P.tree; slot = z; are = P.are } in
      let i = tree_slot ys is T Y in
      let j = below_kind Ed f (path ++ P.bytes) c P.bytes P.lay P.below P.tree z in
      never (record { first = i.0; last = i.1; low = j.0; high = j.1; crossing = j.2; full = λ h. k ∙ P.of.long ∙ j.3 h })

  pub prefix_opens : {c n : ℕ} {q : List ℕ} (P : PrefixHere f o) → Entry f s 2 o → BelowSlot f c u n → c ≡ le 4 f (o + prefix_child) → n ≡ le 2 f (o + prefix_length) → q ≡ path ++ P.bytes
      → Opens (TreeItems Ed f q c) (Below Ed f path s 2 o) f d u b m t m t
  prefix_opens {c} {n} {q} P E I e k h =
      let z : P.child ≡ c = sym P.is.child ∙ sym e in
      let long : length P.bytes ≡ n = sym P.is.long ∙ sym k in
      opens_as
      (λ ys W.
      let y : P.child ≡ slot_of W.lay = z ∙ sym W.slot in
      let J : Tree Ed f (path ++ P.bytes) W.lay = rw h at W.tree in
      prefix_is W.lay E (rw y at P.is) (kind_below Ed f q c P.bytes W.lay W.tree W.slot I.low (λ t. long ∙ I.full t)) J W.are)
      (λ ys W.
      let Q = prefix_of W in
      let w = prefix_unique f o Q.bytes P.bytes (slot_of Q.lay) P.child Q.of P.is in
      let J : Tree Ed f q Q.lay = rw (h, sym w.0) Q.tree in
      record { lay = Q.lay; tree = J; slot = w.1 ∙ z; are = Q.are })

-- ---- an inner node

module _ {Ed : Edition} {f path : List ℕ} {s o kind d u b : ℕ} {m : List ℕ} {t : Sums} (least : 4 ≤ kind) where
  pub node_deep : {depth limit : ℕ} → Lawful Ed → Ed.longest ≤ limit → Bytes f → Entry f s kind o → length path ≡ depth → limit ≤ depth → Fails (Below Ed f path s kind o) d u b m t
  node_deep L w B E l h is K ys W Y =
      let e = E.kind_is in
      omega (arith, node_short L f path W.lay B (kind_node Ed f path s W.lay W.tree W.slot (omega arith)) W.tree)

  pub node_bad : (InnerHere f o kind → ⊥) → Fails (Below Ed f path s kind o) d u b m t
  node_bad n is K ys W Y =
      let N = node_of_lem least W in n (record { kids = pairs N.kids; is = N.of.inner; fits = record { least = N.of.least; at_most = N.of.at_most } })

  pub node_opens : (I : InnerHere f o kind) → Entry f s kind o → Opens (RunItems Ed f path o kind I.kids) (Below Ed f path s kind o) f d u b m t m t
  node_opens I E =
      opens_as
      (λ ys R. node_is R.kids E (record { inner = rw R.pairs_are I.is; least = rw R.pairs_are I.fits.least; at_most = rw R.pairs_are I.fits.at_most; places = R.places }) R.trees R.are)
      (λ ys W.
      let N = node_of_lem least W in
      record { kids = N.kids; trees = N.trees; pairs_are = inner_unique f o kind (pairs N.kids) I.kids N.of.inner I.is; places = N.of.places; are = N.are })

-- a node's body with what is told of it
node_no : {f : List ℕ} {limit depth kind o d u b : ℕ} {m : List ℕ} {t : Sums} {m' : List ℕ}
    → ((Ed : Edition) → Lawful Ed → Ed.longest ≤ limit → (path : List ℕ) (s : ℕ) → length path ≡ depth → Entry f s kind o → 1 ≤ s → s ≤ u → Fails (TreeItems Ed f path s) d u b m t)
    → NodeTold f limit depth kind o d u b m t m' None
node_no h = record { holds = λ t' g. clash (cc); fails = λ n. h }

pub node_other : {f : List ℕ} {limit depth kind o d u b : ℕ} {m : List ℕ} {t : Sums} {m' : List ℕ} → (Live kind → ⊥) → NodeTold f limit depth kind o d u b m t m' None
node_other h = node_no (λ Ed L w path s l E a z. kind_fails (sym E.kind_is) h)

module _ {f : List ℕ} {limit depth kind o d u b : ℕ} {m : List ℕ} {t : Sums} {m' : List ℕ} where
  pub node_body : {m'' : List ℕ} {r : Option Sums} → BodyTold d u b kind o m t m' r → r ≡ None → NodeTold f limit depth kind o d u b m t m'' None
  node_body T n = node_no (λ Ed L w path s l E a z. body_fails E T n)

  module _ (least : 4 ≤ kind) (most : kind ≤ 7) {t' : Sums} (T : BodyTaken d u b kind o m t m' t') where
    pub node_refused : {m'' : List ℕ}
        → ((Ed : Edition) → Lawful Ed → Ed.longest ≤ limit → (path : List ℕ) (s : ℕ) → length path ≡ depth → Entry f s kind o → Fails (Below Ed f path s kind o) d u b m' t') → NodeTold f limit depth kind o d u b m t m'' None
    node_refused h = node_no (λ Ed L w path s l E a z. opens_fails (body_opens E T a z (omega arith) (omega arith)) (h Ed L w path s l E))

    pub node_told : depth < limit → InnerHere f o kind → NodeTold f limit depth kind o d u b m t m' (Some t')
    node_told l I =
        let e = body_slots T in
        let N : NodeOpened f limit depth kind o d u b m t m' t' = record {
          node = I;
          room = T.high;
          short = l;
          tally = tally_body T.tally;
          more = omega arith;
          of = λ Ed path s E a z. opens_on (body_opens E T a z (omega arith) (omega arith)) (node_opens least I E);
        } in
        record { holds = λ s e. let i : s ≡ t' = cc in rw i N; fails = λ e. clash (cc) }

-- a Prefix's body with what is told of it
module _ {f path : List ℕ} {depth s o d u b : ℕ} {m : List ℕ} {t : Sums} {now m' : List ℕ} {m₁ : List ℕ} (E : Entry f s 2 o) where
  pub prefix_body : {r : Option Sums} → BodyTold d u b 2 o m t m₁ r → r ≡ None → PrefixTold f path depth s d u b m t now m' None
  prefix_body T n = record { holds = λ i g. clash (cc); fails = λ y Ed L w. body_fails E T n }

  pub prefix_refused : {t₁ : Sums} → BodyTaken d u b 2 o m t m₁ t₁ → 1 ≤ s → s ≤ u → ((Ed : Edition) → Lawful Ed → Ed.longest ≤ length now → Fails (Below Ed f path s 2 o) d u b m₁ t₁)
      → PrefixTold f path depth s d u b m t now m' None
  prefix_refused T a z h = record { holds = λ i y. clash (cc); fails = λ y Ed L w. opens_fails (body_opens E T a z (omega arith) (omega arith)) (h Ed L w) }

pub prefix_told : {f path : List ℕ} {depth s o d u b : ℕ} {m : List ℕ} {t : Sums} {now : List ℕ} {m₁ : List ℕ} {t₁ : Sums} {c n deep kind o' : ℕ} (P : PrefixHere f o) → BodyTaken d u b 2 o m t m₁ t₁ → Entry f s 2 o → 1 ≤ s → s ≤ u
    → BelowSlot f c u n → c ≡ le 4 f (o + prefix_child) → n ≡ le 2 f (o + prefix_length) → kind ≡ high_of f c → o' ≡ place_of f c → o' < 1048576 → depth ≤ deep → deep < length now → take deep now ≡ path ++ P.bytes
    → PrefixTold f path depth s d u b m t now m₁ (Some (record { sums = t₁; slot = c; entry = record { high = kind; place = o' }; depth = deep }))
prefix_told {f} {path} {depth} {s} {o} {d} {u} {b} {m} {t} {now} {m₁} {t₁} {c} {n} {deep} {kind} {o'} P T E a z I ec en ek eo small le short e =
    let q = body_slots T in
    let low = I.low in
    let k : Inner = record { sums = t₁; slot = c; entry = record { high = kind; place = o' }; depth = deep } in
    let L : PrefixLeads f path depth s d u b m t now m₁ k = record {
      first = I.first;
      last = I.last;
      other = λ y. omega arith;
      kind_is = ek;
      place_is = eo;
      small = small;
      deeper = le;
      short = short;
      tally = tally_body T.tally;
      more = omega arith;
      opens = λ Ed. opens_on (body_opens E T a z (omega arith) (omega arith)) (prefix_opens P E I ec en e);
    } in
    record { holds = λ i h. let y : i ≡ k = cc in rw y L; fails = λ y. clash (cc) }

-- ---- its children, one after the other

-- the first of them
pub run_split : {Ed : Edition} (f path : List ℕ) (o kind : ℕ) (k : ℕ × ℕ) (ks : List (ℕ × ℕ)) (zs : List Item) → RunItems Ed f path o kind (k ∷ ks) zs
    → (xs : List Item) × TreeItems Ed f (path ++ k.0 ∷ []) k.1 xs × (ys : List Item) × RunItems Ed f path o kind ks ys × (zs ≡ xs ++ ys)
unfolding Trees Places pairs items_all
run_split {Ed} f path o kind k ks zs R = go R.kids R.trees R.pairs_are R.places R.are
  where
    go : (kids : LayKids) → Trees Ed f path kids → pairs kids ≡ k ∷ ks → Places f o kind kids → items_all kids ≡ zs
        → (xs : List Item) × TreeItems Ed f (path ++ k.0 ∷ []) k.1 xs × (ys : List Item) × RunItems Ed f path o kind ks ys × (zs ≡ xs ++ ys)
    go nil T e P z = clash (cc)
    go (kid b j l rest) T e P z =
        let h : ◌≡◌ {A = ℕ × ℕ} (b, slot_of l) k = head-eq_of_cons-eq e in
        let hb : b ≡ k.0 = ap (λ (x : ℕ × ℕ). x.0) h in
        (items l, record { lay = l; tree = rw hb at T.0; slot = ap (λ (x : ℕ × ℕ). x.1) h; are = refl }, items_all rest, record { kids = rest; trees = T.1; pairs_are = tail-eq_of_cons-eq e; places = P.1; are = refl }, sym z)

pub run_join : {Ed : Edition} (f path : List ℕ) (o kind : ℕ) (k : ℕ × ℕ) (ks : List (ℕ × ℕ)) (xs ys : List Item) → TreeItems Ed f (path ++ k.0 ∷ []) k.1 xs → RunItems Ed f path o kind ks ys → RunItems Ed f path o kind (k ∷ ks) (xs ++ ys)
unfolding Trees Places pairs items_all
run_join f path o kind k ks xs ys W R =
    let p = R.pairs_are in
    let q = W.slot in
    record {
      kids = kid k.0 (pick (eqb kind node48_kind) (byte_at f (o + node48_index + k.0)) 0) W.lay R.kids;
      trees = (W.tree, R.trees);
      pairs_are = rw (q, p);
      places = (refl, R.places);
      are = rw (W.are, R.are);
    }

-- the next child's byte and slot
pub kids_next : (ks : List (ℕ × ℕ)) (i c s : ℕ) → i < length ks → c ≡ byte_in ks i → s ≡ child_in ks i → drop i ks ≡ (c, s) ∷ drop (suc i) ks
kids_next ks i c s h e g = drop-cons ks i (0, 0) h ∙ rw (e, g)
