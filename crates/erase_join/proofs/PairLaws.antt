-- The spot of a key whose Leaf stands in a Node4 of two: the other child, what is read of it, and the site of the join. Assumes nothing.
use Prim.Native.Nat.{ℕ, ◌+◌, ◌<◌}
use mathlib.Core.Path.{◌≡◌, refl, sym, ap, subst, ◌∙◌}
use mathlib.Core.List.{List, [], ◌∷◌, ◌++◌}
use mathlib.Core.Bool.{true}
use mathlib.Core.Option.{Option, none, some}
use native.Mathlib.Omega.{arith}
use native.Mathlib.Decide.{ℕ_discrete}
use lib.ListN.{length}
use borrow.Author.Tests.{eq-eqb, ne_eqb}
use Rattle.layout.specs.Kind.{leaf_kind, prefix_kind, node4_kind}
use Rattle.layout.specs.Entry.{high_of}
use Rattle.model.specs.Edition.{Edition}
use Rattle.model.specs.State.{State, room, erase_change}
use Rattle.model.specs.Body.{PrefixAt, InnerAt, byte_in, child_in, look_kid}
use Rattle.model.specs.Frame.{Lay, LayKids, slot_of, art, pairs, tree, Tree}
use Rattle.model.specs.Frame.Lay.{leaf, prefix, node}
use Rattle.model.specs.Frame.LayKids.{nil, kid}
use Rattle.model.proofs.StringLaws.{clash}
use Rattle.node.specs.Kids.{remove_kid, Reached}
use Rattle.node.proofs.KidsLaws.{reached_start, reached_next}
use Rattle.inner.specs.Inner.{Visit}
use Rattle.inner.proofs.InnerLaws.{inner_one, inner_asc, inner_count}
use Rattle.between.specs.Hole.{Step, under, among, plug, path_of}
use Rattle.between.proofs.TreeLaws.{leaf_parts, prefix_parts, node_parts}
use Rattle.between.proofs.KidsLaws.{app_look, app_remove}
use Rattle.between.proofs.WorkLaws.{forest_first}
use Rattle.chain.specs.Row.{Entered}
use Rattle.chain.proofs.ReadLaws.{entered_at}
use Rattle.descent.specs.declared.spot.Spot.{Spot}
use Rattle.erase_remove.proofs.SpotLaws.{held, path, kids, left, gone, N0, left_none, count_is}
use Rattle.erase_join.specs.declared.lone.Lone.{Lone}
use Rattle.erase_join.specs.Erase.{Pair}
use Rattle.between.specs.Lead.{NotUnder, NotLeaf}
use Rattle.erase_join.specs.Lone.{IsLeaf, Told, Full, Site, Ready, Bare, UnderRun, Capped, Roomy, Couple, AtSpot, Above, HasRoom}
use Rattle.erase_join.proofs.UpLaws.{child_stood}
use Rattle.erase_join.proofs.OverLaws.{opened_above}
use Rattle.erase_join.proofs.SiteLaws.{beside, site_open}

-- ---- the other of two children

-- it stands first
pub other_first : (b : ℕ) {s : ℕ} (ks : List (ℕ × ℕ)) → length ks ≡ 2 → look_kid b ks ≡ some s → (byte_in ks 0 ≡ b → ⊥) → remove_kid b ks ≡ (byte_in ks 0, child_in ks 0) ∷ []
unfolding remove_kid look_kid
other_first b [] n h d = absurd (omega arith)
other_first b (x ∷ []) n h d = absurd (omega arith)
other_first b (x ∷ y ∷ z ∷ ks) n h d = absurd (omega arith)
other_first b {s} (x ∷ y ∷ []) n h d = elim (ℕ_discrete y.0 b) [
  | yes e ↦ rw (ne_eqb x.0 b d, eq-eqb y.0 b e) refl
  | no e ↦ let z : ◌≡◌ {A = Option ℕ} none (some s) = rw (ne_eqb x.0 b d, ne_eqb y.0 b e) at h in clash (cc)
]

-- or second
pub other_second : (b : ℕ) (ks : List (ℕ × ℕ)) → length ks ≡ 2 → byte_in ks 0 ≡ b → remove_kid b ks ≡ (byte_in ks 1, child_in ks 1) ∷ []
unfolding remove_kid
other_second b [] n e = absurd (omega arith)
other_second b (x ∷ []) n e = absurd (omega arith)
other_second b (x ∷ y ∷ z ∷ ks) n e = absurd (omega arith)
other_second b (x ∷ y ∷ []) n e = rw (eq-eqb x.0 b e) refl

-- what `child_at` says
abbrev pub ChildAt : List ℕ → ℕ → ℕ → ℕ → ℕ → ℕ → Type 0
ChildAt f o i from b s = (b < 256) × ((ks : List (ℕ × ℕ)) → InnerAt f o node4_kind ks → Reached ks i from → (b ≡ byte_in ks i) × (s ≡ child_in ks i))

-- what is read of the other child
abbrev pub Other : List ℕ → ℕ → ℕ → ℕ → ℕ → Type 0
Other f o b c s = (c < 256) × ((ks : List (ℕ × ℕ)) → InnerAt f o node4_kind ks → remove_kid b ks ≡ (c, s) ∷ [])

module _ {f : List ℕ} {o b : ℕ} (C : Couple f o b) where
  pub visit_first : Visit f o node4_kind 0 0
  visit_first = record { kids = C.kids; node = C.node; inside = omega (arith, C.two); reached = reached_start C.kids; low = omega arith }

  module _ {c s : ℕ} (F : ChildAt f o 0 0 c s) where
    first : (c ≡ byte_in C.kids 0) × (s ≡ child_in C.kids 0)
    first = F.1 C.kids C.node (reached_start C.kids)

    pub is_first : (c ≡ b → ⊥) → Other f o b c s
    is_first d = (
      F.0,
      λ ls N. let g = first in ap (remove_kid b) (inner_one ls C.kids N C.node) ∙ other_first b C.kids C.two C.has (λ e. d (first.0 ∙ e)) ∙ ap (λ (x : ℕ × ℕ). x ∷ []) cc,
    )

    next : Reached C.kids 1 (c + 1)
    next = subst (λ i. Reached C.kids 1 (i + 1)) (sym first.0) (reached_next C.kids 0 (inner_asc C.kids C.node) (omega (arith, C.two)))

    pub visit_second : Visit f o node4_kind 1 (c + 1)
    visit_second = record { kids = C.kids; node = C.node; inside = omega (arith, C.two); reached = next; low = omega (arith, F.0) }

    pub is_second : {c' s' : ℕ} → c ≡ b → ChildAt f o 1 (c + 1) c' s' → Other f o b c' s'
    is_second e G = (
      G.0,
      λ ls N. let g = G.1 C.kids C.node next in ap (remove_kid b) (inner_one ls C.kids N C.node) ∙ other_second b C.kids C.two (sym first.0 ∙ e) ∙ ap (λ (x : ℕ × ℕ). x ∷ []) cc,
    )

-- ---- the entry of a child

told : (E : Edition) (f path : List ℕ) (u : Lay) (c : ℕ) → Tree E f path u → slot_of u ≡ c → Told (high_of f c) u
told E f path (leaf n o e k v) c T es =
    let q : high_of f c ≡ leaf_kind = ap (high_of f) (sym es) ∙ (leaf_parts E f path n o e k v T).0.kind_is in
    record { as_leaf = λ z. tt; other = λ z. absurd (z q) }
told E f path (prefix n o p t) c T es =
    let q : high_of f c ≡ prefix_kind = ap (high_of f) (sym es) ∙ (prefix_parts E f path n o p t T).0.kind_is in
    record { as_leaf = λ z. absurd (omega arith); other = λ z. tt }
told E f path (node n o kind ks) c T es =
    let P = node_parts E f path n o kind ks T in
    let q : high_of f c ≡ kind = ap (high_of f) (sym es) ∙ P.0.kind_is in
    let r = P.1.inner.range in
    record { as_leaf = λ z. absurd (omega arith); other = λ z. tt }

-- ---- the site at the spot

-- one child is left
record OneKid (ks : LayKids) : Type 0 where
  byte : ℕ
  place : ℕ
  child : Lay
  is : ks ≡ kid byte place child nil

one_kid : (ks : LayKids) → length (pairs ks) ≡ 1 → OneKid ks
unfolding pairs
one_kid nil n = absurd (omega arith)
one_kid (kid b j u nil) n = record { byte = b; place = j; child = u; is = refl }
one_kid (kid b j u (kid c i t ks)) n = absurd (omega arith)

module _ {E : Edition} {f k : List ℕ} {p : Spot} (P : Pair E f k p) where
  abbrev s : State
  s = P.at.st

  left_one : OneKid (left P.at s P.at.stands)
  left_one = one_kid (left P.at s P.at.stands) (omega (arith, count_is P.at s P.at.stands, P.two))

  inner_four : InnerAt f p.node.place node4_kind (pairs (kids P.at s P.at.stands))
  inner_four = subst (λ z. InnerAt f p.node.place z (pairs (kids P.at s P.at.stands))) P.kind (N0 P.at s P.at.stands).inner

  pub pair_couple : Couple f p.node.place p.byte
  pair_couple =
      let H = held P.at in
      let ks = pairs (kids P.at s P.at.stands) in
      record {
        kids = ks;
        node = inner_four;
        two = sym (inner_count ks inner_four) ∙ P.two;
        child = p.here.slot;
        has = app_look p.byte H.place (gone P.at s P.at.stands) 0 H.before H.after (inner_asc ks inner_four);
      }

  -- what is read
  abbrev lone_of : ℕ → ℕ → Lone
  lone_of b c = record { node = p.node.slot; leaf = p.here.slot; at = p.here.place; byte = b; child = c }

  module _ {b c : ℕ} (O : Other f p.node.place p.byte b c) where
    one_pair : ◌≡◌ {A = List (ℕ × ℕ)} ((left_one.byte, slot_of left_one.child) ∷ []) ((b, c) ∷ [])
    unfolding pairs
    one_pair =
        let H = held P.at in
        let ks = pairs (kids P.at s P.at.stands) in
        ap pairs (sym left_one.is) ∙ sym (app_remove p.byte H.place (gone P.at s P.at.stands) 0 H.before H.after (inner_asc ks inner_four)) ∙ O.1 ks inner_four

    slot_is : slot_of left_one.child ≡ c
    slot_is = ap (λ x. child_in x 0) one_pair

    whole_is : P.at.lay ≡ plug (held P.at).steps (node p.node.slot p.node.place node4_kind (kids P.at s P.at.stands))
    whole_is = (held P.at).is ∙ ap (λ z. plug (held P.at).steps (node p.node.slot p.node.place z (kids P.at s P.at.stands))) P.kind

    pair_site : Site E k P.at.stands.root (held P.at).steps (lone_of b c) left_one.child
    pair_site =
        let H = held P.at in
        record {
          node_at = p.node.place;
          before = H.before;
          byte = p.byte;
          place = H.place;
          after = H.after;
          extent = H.extent;
          value = H.value;
          rest = H.rest;
          other = left_one.place;
          whole = P.at.is ∙ ap tree whole_is;
          leads = H.leads;
          first = left_none P.at s P.at.stands;
          left = left_one.is ∙ ap (λ z. kid z left_one.place left_one.child nil) (ap (λ x. byte_in x 0) one_pair);
          slot_is = slot_is;
        }

    -- the child's entry
    pub child_entry : Entered f c
    child_entry = entered_at (child_stood P.at.stands pair_site) slot_is

    pub pair_read : AtSpot E f k p (lone_of b c)
    unfolding pair_site
    pair_read =
        let H = held P.at in
        let S = pair_site in
        let q = path_of H.steps ++ b ∷ [] in
        record {
          steps = H.steps;
          child = left_one.child;
          entered = child_entry;
          is = told E f q left_one.child c (forest_first E f q left_one.child (beside S) (site_open P.at.stands S).trees).0 slot_is;
          ready = record { lawful = P.at.lawful; some = P.at.some; st = s; stands = P.at.stands; site = S; room = subst (λ (z : Lay). room s (erase_change E (art z) k) ≡ true) whole_is P.at.room };
          link_is = H.link;
          top = H.top;
        }

-- ---- the join that the child and the Prefix above ask for

module _ {E : Edition} {f k : List ℕ} {p : Spot} {l : Lone} (A : AtSpot E f k p l) where
  abbrev capped_of : {Q : Lay → Type 0} → Q A.child → (p.above.slot ≡ 0 → ⊥) → Capped E Q f k l p.above
  capped_of i n =
      let C = A.top.capped (omega arith) in
      record { bytes = C.bytes; up = C.up; child = A.child; is = i; ready = subst (λ (xs : List Step). Ready E f k xs l A.child) C.is A.ready; link_is = C.link }

  above_at : {Q : Lay → Type 0} (C : Capped E Q f k l p.above) → PrefixAt f p.above.place C.bytes l.node
  above_at C = (opened_above C.ready.stands p.above C.bytes C.up C.ready.site).1

  pub above_of : Above f p.above
  above_of n = let P = above_at (capped_of {Q = λ u. Unit {0}} tt n) in (P.room, omega (arith, P.long, P.most))

  module _ (kind : high_of f l.child ≡ leaf_kind) where
    pub leaf_bare : p.above.slot ≡ 0 → Bare E NotUnder IsLeaf f k l p.node.link
    leaf_bare e = record { steps = A.steps; child = A.child; is = A.is.as_leaf kind; ready = A.ready; free = A.top.without e; link_is = A.link_is }

    pub leaf_under : (p.above.slot ≡ 0 → ⊥) → UnderRun E f k l p.first p.first_link
    leaf_under n =
        let R = A.top.run (omega arith) in
        record {
          run = R.run;
          up = R.up;
          only = R.only;
          free = R.free;
          top = R.top;
          child = A.child;
          is = A.is.as_leaf kind;
          ready = subst (λ (xs : List Step). Ready E f k xs l A.child) R.is A.ready;
          link_is = R.link;
        }

  module _ {n : ℕ} (kind : high_of f l.child ≡ leaf_kind → ⊥) (H : HasRoom f p.above n) where
    none_full : (xs : List Step) → NotUnder xs → Full xs
    none_full [] u = tt
    none_full (under s o q ∷ xs) u = absurd u
    none_full (among s o kind ls b j rs ∷ xs) u = tt

    -- one that stands above has no room
    full_above : n ≡ 0 → Full A.steps
    full_above z = elim (ℕ_discrete p.above.slot 0) [
      | yes e ↦ none_full A.steps (A.top.without e)
      | no d ↦
          let C = capped_of {Q = NotLeaf} (A.is.other kind) d in
          let P = above_at C in
          subst Full (sym (A.top.capped (omega arith)).is) (omega (arith, H.some d, P.long, P.most))
    ]

    pub other_bare : n ≡ 0 → Bare E Full NotLeaf f k l p.node.link
    other_bare z = record { steps = A.steps; child = A.child; is = A.is.other kind; ready = A.ready; free = full_above z; link_is = A.link_is }

    pub other_roomy : (n ≡ 0 → ⊥) → Roomy E f k l p.above
    other_roomy z =
        let d : p.above.slot ≡ 0 → ⊥ = λ e. z (H.none e) in
        record { capped = capped_of (A.is.other kind) d; room = omega (arith, H.some d) }
