-- One step of a descent: to the end at a Leaf, an inner node or a Prefix, or past a Prefix or an inner node to the child. Assumes nothing.
use Prim.Native.Nat.{ℕ, suc, ◌+◌, ◌<◌, ◌≤◌}
use mathlib.Core.Path.{◌≡◌, refl, sym, ap, ◌∙◌}
use mathlib.Core.List.{List, [], ◌∷◌, ◌++◌}
use mathlib.Core.Option.{none, some}
use native.Mathlib.Omega.{arith}
use native.Mathlib.Decide.{ℕ_discrete}
use lib.ListN.{length, get_or, drop, length-append}
use lib.Seq.{get_or_at}
use borrow.Author.Tests.{eq-eqb, ne_eqb}
use Rattle.layout.specs.Place.{prefix_child}
use Rattle.layout.specs.Kind.{number_of}
use Rattle.layout.specs.declared.kind.Kind.{Kind}
use Rattle.layout.specs.declared.kind.Kind.TheVariants as kinds
use Rattle.model.specs.Strings.{shared}
use Rattle.model.specs.Edition.{Edition}
use Rattle.model.specs.Body.{look_kid}
use Rattle.model.specs.Visits.{visits}
use Rattle.model.specs.Frame.{Lay, LayKids, slot_of, art, pairs, NodeOf}
use Rattle.model.specs.Frame.Lay.{leaf, node}
use Rattle.model.specs.Frame.LayKids.{kid}
use Rattle.model.proofs.StringLaws.{shared_left, clash}
use Rattle.model.proofs.ChainLaws.{below_hung}
use Rattle.node.specs.Kids.{place_of}
use Rattle.inner.specs.Inner.{link_at, place_at}
use Rattle.inner.proofs.InnerLaws.{inner_asc}
use Rattle.between.specs.Hole.{Step, under, among, app, plug, plug1, path_of, Link}
use Rattle.between.specs.Lead.{Leads, NotUnder}
use Rattle.between.proofs.HoleLaws.{plug_under, plug_among, path_under, path_among}
use Rattle.between.proofs.KidsLaws.{look_none, look_split, app_place, app_places, app_left}
use Rattle.between.proofs.LeadLaws.{leads_under, leads_among, leads_rest}
use Rattle.descent.proofs.CountLaws.{count_past, count_parted, count_child, count_missing}
use Rattle.descent.specs.declared.spot.End.{End}
use Rattle.descent.specs.declared.spot.End.TheVariants as end
use Rattle.descent.specs.declared.spot.Body.{Body}
use Rattle.descent.specs.declared.spot.Spot.{Spot}
use Rattle.descent.specs.Spot.{end_at, below_prefix, over_of, top_of, top_link_of, below_node, Run, Topped, Holder, Over, Way, ThisKey, OtherKey, NoByte, PartPrefix, Going, Counted, AtLeaf, AtPrefix, AtNode, Stepped}

-- ---- strings

-- a string that is matched to its end begins the other
pub shared_all : (p r : List ℕ) → length p ≤ shared p r → (q : List ℕ) × (r ≡ p ++ q)
shared_all [] r h = (r, refl)
shared_all (x ∷ p) [] h = absurd (omega arith)
shared_all (x ∷ p) (y ∷ r) h = elim (ℕ_discrete x y) [
  | yes e ↦
      let z : suc (length p) ≤ suc (shared p r) = rw (eq-eqb x y e) at h in
      let on = shared_all p r (omega arith) in
      let q = on.1 in (on.0, cc)
  | no n ↦ absurd (let z : suc (length p) ≤ 0 = rw (ne_eqb x y n) at h in omega arith)
]

-- ---- the end of the way

-- ---- past a Prefix

link_under : (s o : ℕ) (p : List ℕ) (xs : List Step) → Link (under s o p ∷ xs) (o + prefix_child)
unfolding Link
link_under s o p xs = refl

-- ---- at an inner node

link_among : (s o kind : ℕ) (ls : LayKids) (b j : ℕ) (rs : LayKids) (xs : List Step) (at : ℕ) → at ≡ link_at o kind (length (pairs ls)) j b → Link (among s o kind ls b j rs ∷ xs) at
unfolding Link
link_among s o kind ls b j rs xs at e = e

not_under : {xs : List Step} {n : Body} {b : ℕ} {u : Body} {first at : ℕ} → Holder xs n b u first at → NotUnder xs
not_under H = rw H.is tt

-- the Prefix just above the body where the descent stands
over_top : (xs : List Step) (s : Spot) → Over xs s.node s.byte s.above s.first s.first_link → Topped xs (over_of s) s.first s.first_link
over_top xs s O = elim (ℕ_discrete s.node.slot 0) [
  | yes e ↦ rw (eq-eqb s.node.slot 0 e) (O.top e)
  | no e ↦ rw (ne_eqb s.node.slot 0 e) (record { without = λ z. not_under (O.held (omega arith)); capped = λ z. absurd (omega arith); run = λ z. absurd (omega arith) })
]

-- a Prefix there ends a run: that of the Prefix just above it, or its own
run_below : (xs : List Step) (s : Spot) (o : ℕ) (p : List ℕ) → Topped xs (over_of s) s.first s.first_link → Link xs s.here.link → Run (under s.here.slot o p ∷ xs) (top_of s) (top_link_of s)
unfolding plug plug1
run_below xs s o p T l = elim (ℕ_discrete (over_of s).slot 0) [
  | yes e ↦ rw (eq-eqb (over_of s).slot 0 e) (record { run = under s.here.slot o p ∷ []; up = xs; is = refl; only = tt; free = T.without e; top = λ t. refl; link = l })
  | no e ↦
      let R = T.run (omega arith) in
      let x = under s.here.slot o p in
      rw (ne_eqb (over_of s).slot 0 e)
      (record { run = x ∷ R.run; up = R.up; is = ap (λ ys. x ∷ ys) R.is; only = R.only; free = R.free; top = λ t. R.top (plug1 x t); link = R.link })
]

module _ (E : Edition) where
  pub way_end : {k : List ℕ} {l : Lay} {s : Spot} (W : Way E k l s) (e : End) (o : ℕ) (kind : Kind) (q : ℕ) → Way E k l (end_at s e o kind q)
  way_end W e o kind q =
      record { steps = W.steps; sub = W.sub; rest = W.rest; whole = W.whole; leads = W.leads; deep = W.deep; slot_is = W.slot_is; link_is = W.link_is; over = W.over }

  module _ {f k : List ℕ} {s : Spot} (G : Going E f k s) (C : Counted E k s G.lay G.way.sub) (e : End) (o : ℕ) (kind : Kind) (q : ℕ) where
    -- the end has its record, and no other end is claimed; one slot was left
    stop : (e ≡ end.Going → ⊥) × (e ≡ end.Empty → ⊥) → visits E (art G.way.sub) s.depth k ≡ 1 → (e ≡ end.Found → ThisKey k (end_at s e o kind q) G.way.steps G.way.sub) → (e ≡ end.Other → OtherKey E k (end_at s e o kind q) G.way.steps G.way.sub)
        → (e ≡ end.Missing → NoByte E k (end_at s e o kind q) G.way.sub) → (e ≡ end.Parted → PartPrefix E k (end_at s e o kind q) G.way.sub) → Stepped E f k s (end_at s e o kind q)
    unfolding way_end
    stop r one a b c d =
        let v : s.visited + 1 ≡ visits E (art G.lay) 0 k = rw one at C.left in
        record {
          goes = λ z. absurd (r.0 z);
          ends = λ z. record {
            st = G.st;
            stands = G.stands;
            tree = record { lay = G.lay; is = G.is; spot = record { way = way_end G.way e o kind q; range = r; found = a; other = b; missing = c; parted = d } };
            visited = rw G.is v;
          };
        }

  module _ {f k : List ℕ} {s : Spot} {o : ℕ} (A : AtLeaf E f k s o) where
    pub leaf_found : A.key ≡ k → Stepped E f k s (end_at s end.Found o kinds.Leaf 0)
    leaf_found e =
        stop A.going A.count end.Found o kinds.Leaf 0 (λ z. clash (cc), λ z. clash (cc)) (rw A.is refl)
        (λ z. record { extent = A.extent; value = A.value; is = A.is ∙ ap (λ x. leaf s.here.slot o A.extent x A.value) e; kind = refl; free = A.free })
        (λ z. clash (cc)) (λ z. clash (cc)) (λ z. clash (cc))

    pub leaf_other : (q : ℕ) → (A.key ≡ k → ⊥) → q ≡ shared (drop s.depth (E.walked k)) (drop s.depth (E.walked A.key)) → Stepped E f k s (end_at s end.Other o kinds.Leaf q)
    leaf_other q n e =
        stop A.going A.count end.Other o kinds.Leaf q (λ z. clash (cc), λ z. clash (cc)) (rw A.is refl)
        (λ z. clash (cc))
        (λ z. record { extent = A.extent; key = A.key; value = A.value; is = A.is; kind = refl; free = A.free; differs = λ y. n (sym y); shares = e })
        (λ z. clash (cc)) (λ z. clash (cc))

  module _ {f k w : List ℕ} {s : Spot} {o : ℕ} (A : AtPrefix E f k w s o) (q n : ℕ) (e : q ≡ shared A.bytes (drop s.depth (E.walked k))) (m : n ≡ length A.bytes) where
    pub prefix_parted : q < n → Stepped E f k s (end_at s end.Parted o kinds.Prefix q)
    prefix_parted h =
        stop A.going A.count end.Parted o kinds.Prefix q (λ z. clash (cc), λ z. clash (cc))
        (rw A.is (count_parted E A.bytes s.depth k A.at.some A.at.most (art A.below) (omega arith)))
        (λ z. clash (cc)) (λ z. clash (cc)) (λ z. clash (cc))
        (λ z. record { bytes = A.bytes; below = A.below; is = A.is; kind = refl; short = A.short; shares = e; less = omega arith })

    pub prefix_below : (c : ℕ) → n ≤ q → c ≡ slot_of A.below → Stepped E f k s (below_prefix s o n c)
    prefix_below c h d =
        let W = A.going.way in
        let p = A.bytes in
        let r : drop s.depth (E.walked k) ≡ W.rest = rw W.deep (leads_rest W.leads) in
        let u : length p ≤ shared p (drop s.depth (E.walked k)) = omega (arith, e) in
        let g = shared_all p W.rest (rw r at u) in
        let L : Leads E k W.steps (p ++ g.0) = rw g.1 at W.leads in
        let sh = A.short in
        let some = A.at.some in
        let past : visits E (art W.sub) s.depth k ≡ suc (visits E (art A.below) (s.depth + n) k)
        = rw (A.is, m) (count_past E p s.depth k some A.at.most (art A.below) (below_hung p A.below A.hangs) (omega (arith, shared_left p (drop s.depth (E.walked k))))) in
        record {
          goes = λ z. (
            record {
              going = record {
                st = A.going.st;
                stands = A.going.stands;
                lay = A.going.lay;
                is = A.going.is;
                way = record {
                  steps = under s.here.slot o p ∷ W.steps;
                  sub = A.below;
                  rest = g.0;
                  whole = W.whole ∙ ap (plug W.steps) A.is ∙ sym (plug_under s.here.slot o p W.steps A.below);
                  leads = leads_under s.here.slot o p W.steps g.0 L;
                  deep = omega (arith, W.deep, ap length (path_under s.here.slot o p W.steps), length-append (path_of W.steps) p);
                  slot_is = sym d;
                  link_is = link_under s.here.slot o p W.steps;
                  over = record {
                    free = λ y. tt;
                    top = λ y. record { without = λ x. absurd (omega (arith, A.low)); capped = λ x. record { bytes = p; up = W.steps; is = refl; link = W.link_is }; run = λ x. run_below W.steps s o p (over_top W.steps s W.over) W.link_is };
                    held = λ y. absurd (omega arith);
                  };
                };
              };
              count = record { left = omega (arith, past, A.count.left); few = omega (arith, A.count.few); short = omega arith };
            },
            omega arith,
            omega arith,
          );
          ends = λ z. absurd (z refl);
        }

  module _ {f k w : List ℕ} {s : Spot} {o : ℕ} (kind : Kind) (A : AtNode E f k w s o (number_of kind)) (b : ℕ) (e : b ≡ get_or (E.walked k) s.depth 0) where
    abbrev n : ℕ
    n = number_of kind

    its_rest : drop s.depth (E.walked k) ≡ A.byte ∷ A.after
    its_rest = rw A.going.way.deep (leads_rest A.going.way.leads ∙ A.next)

    its_byte : b ≡ A.byte
    its_byte = e ∙ rw (A.going.way.leads.word ∙ ap (λ r. path_of A.going.way.steps ++ r) A.next) (get_or_at (path_of A.going.way.steps) A.byte A.after 0 s.depth (sym A.going.way.deep))

    pub node_missing : look_kid b (pairs A.kids) ≡ none → Stepped E f k s (end_at s end.Missing o kind 0)
    node_missing h =
        let q = its_byte in
        stop A.going A.count end.Missing o kind 0 (λ z. clash (cc), λ z. clash (cc))
        (rw A.is (ap suc (count_missing E k s.depth b (sym e) A.kids (look_none b A.kids h))))
        (λ z. clash (cc)) (λ z. clash (cc))
        (λ z. record { kids = A.kids; is = A.is; short = A.short; byte = A.byte; after = A.after; next = its_rest; absent = rw q at h })
        (λ z. clash (cc))

    pub node_below : (c at : ℕ) → look_kid b (pairs A.kids) ≡ some c → at ≡ link_at o n (place_of b (pairs A.kids)) (place_at f o n b) b → Stepped E f k s (below_node s o kind b c at)
    node_below c at h l =
        let W = A.going.way in
        let sl = s.here.slot in
        let S = look_split b c A.kids h in
        let ks = app S.before (kid b S.place S.child S.after) in
        let N : NodeOf f o n ks = rw S.is at A.at in
        let asc = inner_asc (pairs ks) N.inner in
        let L : Leads E k W.steps (b ∷ A.after) = rw (A.next ∙ ap (λ x. x ∷ A.after) (sym its_byte)) at W.leads in
        let x = among sl o n S.before b S.place S.after in
        let at1 : at ≡ link_at o n (place_of b (pairs ks)) (place_at f o n b) b = rw S.is at l in
        let at2 = at1 ∙ ap (λ i. link_at o n i (place_at f o n b) b) (app_place b S.place S.child 0 S.before S.after asc)
        ∙ ap (λ j. link_at o n (length (pairs S.before)) j b) (app_places b S.place S.child f o n S.before S.after N.places) in
        let sh = A.short in
        let past : visits E (art W.sub) s.depth k ≡ suc (visits E (art S.child) (s.depth + 1) k)
        = ap (λ t. visits E (art t) s.depth k) (A.is ∙ ap (node sl o n) S.is)
        ∙ ap suc (count_child E k s.depth b (sym e) S.place S.child S.before S.after (app_left b S.place S.child 0 S.before S.after asc)) in
        record {
          goes = λ z. (
            record {
              going = record {
                st = A.going.st;
                stands = A.going.stands;
                lay = A.going.lay;
                is = A.going.is;
                way = record {
                  steps = x ∷ W.steps;
                  sub = S.child;
                  rest = A.after;
                  whole = W.whole ∙ ap (plug W.steps) (A.is ∙ ap (node sl o n) S.is) ∙ sym (plug_among sl o n S.before b S.place S.after W.steps S.child);
                  leads = leads_among sl o n S.before b S.place S.after W.steps A.after (app_left b S.place S.child 0 S.before S.after asc) L;
                  deep = omega (arith, W.deep, ap length (path_among sl o n S.before b S.place S.after W.steps), length-append (path_of W.steps) (b ∷ []));
                  slot_is = S.slot;
                  link_is = link_among sl o n S.before b S.place S.after W.steps at at2;
                  over = record {
                    free = λ y. absurd (omega (arith, A.low));
                    top = λ y. absurd (omega (arith, A.low));
                    held = λ y. record { before = S.before; place = S.place; after = S.after; up = W.steps; is = refl; link = W.link_is; top = over_top W.steps s W.over };
                  };
                };
              };
              count = record { left = omega (arith, past, A.count.left); few = omega (arith, A.count.few); short = omega arith };
            },
            omega arith,
            omega arith,
          );
          ends = λ z. absurd (z refl);
        }
