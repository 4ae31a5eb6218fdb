-- From the root, the sweep, the lists and the sums to what the frame stands for, and back. Assumes nothing.
use Prim.Native.Nat.{ℕ, zero, suc, ◌+◌, ◌*◌, ◌<◌, ◌≤◌}
use mathlib.Core.Path.{◌≡◌, refl, sym, ap, ◌∙◌}
use mathlib.Core.List.{List, [], ◌∷◌, ◌++◌}
use mathlib.Core.Bool.{Bool, true, false}
use native.Mathlib.Omega.{arith}
use lib.ListN.{length, get_or}
use Rattle.std.specs.Prelude.{Option, None}
use Rattle.layout.specs.Number.{le}
use Rattle.layout.specs.Place.{at_d, at_b, at_u, at_x, at_root}
use Rattle.layout.specs.Entry.{place_of}
use Rattle.model.specs.Edition.{Edition}
use Rattle.model.specs.State.{State}
use Rattle.model.specs.Item.{Item, body, extent, inside, on_slot, cover, bulk, leafy, sum, Sound}
use Rattle.model.specs.Frame.{Lay, LayKids, Root, bare, tree, items, items_all, Tree, Trees, RootAt, root_items, Lists, freed, state_of, Clean, Stands, Good}
use Rattle.model.specs.Frame.Lay.{leaf, prefix, node}
use Rattle.model.specs.Frame.LayKids.{nil, kid}
use Rattle.model.proofs.StringLaws.{clash}
use Rattle.model.proofs.ItemLaws.{in_under, sum_app, sum_as}
use Rattle.model.proofs.CleanLaws.{stands_clean, root_as}
use Rattle.model.proofs.UniqueLaws.{lists_same}
use Rattle.model.proofs.StandsGood.{bodied, leafy_other, sound_bodies}
use Rattle.claims.specs.Units.{Each, Eighth, Eighths, Within, Slotted, Seen}
use Rattle.claims.proofs.UnitLaws.{fits_seen}
use Rattle.claims.proofs.SlotLaws.{slots_each, sound_made}
use Rattle.sweep.proofs.SweepLaws.{swept_clean, clean_swept}
use Rattle.shape.specs.Shape.{numbers_of}
use Rattle.census.specs.declared.Sums.{Sums}
use Rattle.census.specs.Told.{is_body, is_extent, Tidy, Sited, Book, Held, Told}
use Rattle.census.specs.Freed.{ListOf, ListsOf, FreedItems}
use Rattle.census.proofs.ToldLaws.{tidy_same, tidy_part, each_app, grown_on, book_on}
use Rattle.audit.specs.Audit.{ruled, HeaderFits, RootItems, Unmarked, Closed}
use Rattle.audit.proofs.RootLaws.{root_unique}
use Rattle.audit.proofs.RuleLaws.{rule_of, of_rule, rule_good}

-- ---- sums over items

body_is : (i : Item) → is_body i ≡ bodied i
unfolding is_body bodied
body_is (body s k o) = refl
body_is (extent e n) = refl

none_sum : (v : Item → ℕ) → sum v [] ≡ 0
unfolding sum
none_sum v = refl

-- as many extents as Leaves
module _ (Ed : Edition) (f : List ℕ) where
  mutual
    unfolding Tree Trees items items_all sum leafy is_extent inside

    leaves_items : (path : List ℕ) (l : Lay) → Tree Ed f path l → sum is_extent (items l) ≡ sum leafy (items l)
    leaves_items path (leaf s o e k v) T = refl
    leaves_items path (prefix s o p l) T = omega (arith, leaves_items (path ++ p) l T.3)
    leaves_items path (node s o kind ks) T = let r = T.1.inner.range in omega (arith, leafy_other s kind o (omega arith), leaves_all path ks T.2)

    leaves_all : (path : List ℕ) (ks : LayKids) → Trees Ed f path ks → sum is_extent (items_all ks) ≡ sum leafy (items_all ks)
    leaves_all path nil T = refl
    leaves_all path (kid b j l ks) T =
        omega (arith, sum_app is_extent (items l) (items_all ks), sum_app leafy (items l) (items_all ks), leaves_items (path ++ b ∷ []) l T.0, leaves_all path ks T.1)

  root_leaves : (r : Root) → RootAt Ed f r → sum is_extent (root_items r) ≡ sum leafy (root_items r)
  unfolding RootAt root_items sum leafy is_extent inside
  root_leaves (bare s o) R = refl
  root_leaves (tree l) R = leaves_items [] l R

each_as : (P Q : Item → Type 0) → ((i : Item) → P i → Q i) → (is : List Item) → Each P is → Each Q is
each_as P Q h [] E = tt
each_as P Q h (i ∷ is) E = (h i E.0, each_as P Q h is E.1)

sited_none : (f : List ℕ) (d u b : ℕ) (is : List Item) → Each (Sited f d u b) is → sum (on_slot 0) is ≡ 0
unfolding sum on_slot
sited_none f d u b [] S = refl
sited_none f d u b (extent e n ∷ is) S = omega (arith, sited_none f d u b is S.1)
sited_none f d u b (body s k o ∷ is) S = let h = S.0.slotted in omega (arith, in_under s 1 0 (omega arith), sited_none f d u b is S.1)

join : {xs ys zs ws : List Item} → xs ≡ zs → ys ≡ ws → xs ++ ys ≡ zs ++ ws
join p q = rw (p, q)

sound_as : {d u b x d' u' b' : ℕ} {is js : List Item} → d ≡ d' → u ≡ u' → b ≡ b' → is ≡ js → Sound d u b x is → Sound d' u' b' x js
sound_as p q r e S = rw (sym p, sym q, sym r, sym e) S

clean_as : {f : List ℕ} {d d' : ℕ} {is js : List Item} → d ≡ d' → is ≡ js → Clean f d is → Clean f d' js
clean_as p e C = rw (sym p, sym e) C

-- ---- the eight lists, one by one or all at once

lists_at : (f : List ℕ) (k : ℕ) (ls : List (List (ℕ × ℕ))) → ListsOf f k ls → (i : ℕ) → i < length ls → ListOf f (k + i) (get_or ls i [])
unfolding ListsOf
lists_at f k [] L i h = absurd (omega arith)
lists_at f k (l ∷ ls) L zero h = let e : k + 0 ≡ k = omega arith in rw e L.0
lists_at f k (l ∷ ls) L (suc i) h = let e : k + suc i ≡ suc k + i = omega arith in rw e (lists_at f (suc k) ls L.1 i (omega arith))

lists_from : (f : List ℕ) (k : ℕ) (ls : List (List (ℕ × ℕ))) → ((i : ℕ) → i < length ls → ListOf f (k + i) (get_or ls i [])) → ListsOf f k ls
unfolding ListsOf
lists_from f k [] h = tt
lists_from f k (l ∷ ls) h =
    (rw (let e : k + 0 ≡ k = omega arith in e) at (h 0 (omega arith)), lists_from f (suc k) ls (λ i q. rw (let e : k + suc i ≡ suc k + i = omega arith in e) at (h (suc i) (omega arith))))

lists_all : (f : List ℕ) (ls : List (List (ℕ × ℕ))) → length ls ≡ 8 → ListsOf f 1 ls → Lists f ls
lists_all f ls n L =
    record {
      eight = n;
      third = (lists_at f 1 ls L 2 (omega arith)).third refl;
      chains = λ i h. let e : 1 + i ≡ i + 1 = omega arith in (rw e at (lists_at f 1 ls L i (omega arith))).chain;
    }

all_lists : (f : List ℕ) (ls : List (List (ℕ × ℕ))) → Lists f ls → FreedItems f 1 (freed 1 ls)
all_lists f ls L =
    let n = L.eight in
    record {
      lists = ls;
      eight = omega arith;
      are = lists_from f 1 ls (λ i h. record {
        chain = let e : i + 1 ≡ 1 + i = omega arith in rw e at (L.chains i (omega arith));
        third = λ q. let e : i ≡ 2 = omega arith in rw e L.third;
      });
      items = refl;
    }

-- ---- what the header says

module _ {Ed : Edition} {f : List ℕ} {d u b : ℕ} (H : HeaderFits Ed f) (ed : d ≡ le 4 f at_d) (eu : u ≡ le 4 f at_u) (eb : b ≡ le 4 f at_b) where
  order : d ≤ b
  order =
      let h = H.header in
      let a = h.data_at in
      let c = h.bump_in in
      omega arith

  -- a good frame's items are tidy
  stands_tidy : (s : State) (S : Stands (ruled false Ed) f s) → Tidy d u b (root_items S.root ++ freed 1 S.lists)
  stands_tidy s S =
      let h = S.heap.header in
      let o = S.heap.sound in
      let all = root_items S.root ++ freed 1 S.lists in
      let x = h.data_at in
      let y = h.given_at in
      let z = h.bump_at in
      record {
        apart = o.apart;
        low = λ a p. o.low a (omega arith);
        high = λ a p. o.high a (omega arith);
        zeroth = o.zeroth;
        past = λ a p. o.past a (omega arith);
        few = omega (arith, sum_as is_body bodied body_is all, sound_bodies o);
      }

  root_of_lem : {E : Edition} {s : ℕ} (st : State) (S : Stands E f st) → s ≡ le 2 f at_root → RootAt Ed f S.root → RootItems Ed f s (root_items S.root)
  root_of_lem st S e R = record { root = S.root; at = R; slot = sym S.root_is ∙ sym S.heap.header.root_at ∙ sym e; are = refl }

  root_old : {s : ℕ} (st : State) (S : Stands (ruled false Ed) f st) → s ≡ le 2 f at_root → RootItems Ed f s (root_items S.root)
  root_old st S e = root_of_lem st S e (root_as (of_rule false Ed) f S.root S.root_at)

  module _ {s : ℕ} (es : s ≡ le 2 f at_root) {m : List ℕ} {t : Sums} (fresh : Seen m []) (none : (t.slots ≡ 0) × (t.bytes ≡ 0) × (t.leaves ≡ 0)) where
    book : Book m t []
    unfolding sum
    book = record { seen = fresh; slots = none.0 }

    pub whole_root : {m' : List ℕ} {r : Option Sums} → Told (RootItems Ed f s) (RootItems Ed f s) f d u b m t m' r → r ≡ None → Good (ruled false Ed) f → ⊥
    whole_root T n G =
        let S = G.1 in
        let xs = root_items S.root in
        let ys = freed 1 S.lists in
        T.fails n [] book xs (root_old G.0 S es)
        (tidy_part ys (xs ++ []) (λ v. omega (arith, sum_app v xs ys, sum_app v ys (xs ++ []), sum_app v xs [], none_sum v)) (stands_tidy G.0 S))

    module _ {m' : List ℕ} {r : Sums} (K : Held (RootItems Ed f s) f d u b m t m' r) where
      -- the map shows just what is live
      seen_live : Seen m' K.items
      seen_live = record { marks = λ v. omega (arith, K.grown.marks v, fresh.marks v, none_sum (cover (8 * v))) }

      live_eighths : Eighths K.items
      live_eighths = each_as (Sited f d u b) Eighth (λ i h. h.eighth) K.items K.sited

      live_high : (a : ℕ) → b ≤ a → sum (cover a) K.items ≡ 0
      live_high = (fits_seen seen_live live_eighths (each_as (Sited f d u b) (Within d b) (λ i h. h.within) K.items K.sited)).high

      live_is : {xs : List Item} → RootItems Ed f s xs → K.items ≡ xs
      live_is {xs} R = root_unique f s K.items xs K.are R

      -- what it does not show is zero in a good frame
      pub whole_unclean : (wiped : Bool) → (Unmarked wiped f m' d b → ⊥) → Good (ruled wiped Ed) f → ⊥
      whole_unclean true n G =
          let S = G.1 in
          let C = stands_clean S refl in
          n (record { swept = λ e. clean_swept seen_live live_eighths live_high (omega (arith, order)) (clean_as (sym ed) (sym (live_is (root_of_lem G.0 S es (root_as (of_rule true Ed) f S.root S.root_at)))) C) })
      whole_unclean false n G = n (record { swept = λ e. clash (cc) })

      pub whole_lists : {m'' : List ℕ} {q : Option Sums} → Told (FreedItems f 1) (FreedItems f 1) f d u b m' r m'' q → q ≡ None → Good (ruled false Ed) f → ⊥
      whole_lists T n G =
          let S = G.1 in
          let xs = root_items S.root in
          let ys = freed 1 S.lists in
          let ks = K.items in
          let same = live_is (root_old G.0 S es) in
          T.fails n (ks ++ []) (book_on ks book K.grown) ys (all_lists f S.lists S.heap.lists)
          (tidy_same (λ v. omega (arith, sum_app v xs ys, ap (sum v) same, sum_app v ys (ks ++ []), sum_app v ks [], none_sum v)) (stands_tidy G.0 S))

      module _ {m'' : List ℕ} {q : Sums} (J : Held (FreedItems f 1) f d u b m' r m'' q) where
        -- the sums of a good frame close
        pub whole_open : (Closed f q.slots q.bytes r.leaves → ⊥) → Good (ruled false Ed) f → ⊥
        whole_open n G =
            let S = G.1 in
            let xs = root_items S.root in
            let ys = freed 1 S.lists in
            let h = S.heap.header in
            let o = S.heap.sound in
            let same = live_is (root_old G.0 S es) in
            let F = J.are in
            let ls = F.lists in
            let eight = F.eight in
            let zx : sum (on_slot 0) (freed 1 ls) ≡ 0 = ap (sum (on_slot 0)) F.items ∙ sited_none f d u b J.items J.sited in
            let zy : sum (on_slot 0) ys ≡ 0 = omega (arith, o.zeroth, sum_app (on_slot 0) xs ys) in
            let lists = lists_same f ls S.lists zx zy (lists_all f ls (omega arith) F.are) S.heap.lists in
            let free_same : J.items ≡ ys = sym F.items ∙ ap (freed 1) lists in
            n (record {
              slots_are = omega (arith, K.grown.slots, J.grown.slots, ap (sum is_body) same, ap (sum is_body) free_same, sum_app is_body xs ys, sum_as is_body bodied body_is (xs ++ ys), sound_bodies o, h.given_at, none.0);
              leaves_are = omega (arith, K.grown.leaves, ap (sum is_extent) same, root_leaves Ed f S.root (root_as (of_rule false Ed) f S.root S.root_at), S.counted, h.records_at, none.2);
              accounted = omega (arith, K.grown.bytes, J.grown.bytes, ap (sum bulk) same, ap (sum bulk) free_same, sum_app bulk xs ys, o.accounted, h.data_at, h.bump_at, h.dead_at, none.1);
            })

        stands_closed : Closed f q.slots q.bytes r.leaves → Good (ruled false Ed) f
        stands_closed C =
            let xs = K.items in
            let ys = J.items in
            let is = xs ++ ys in
            let F = J.are in
            let ls = F.lists in
            let eight = F.eight in
            let W = K.are in
            let G = grown_on xs ys K.grown J.grown in
            let S = each_app (Sited f d u b) xs ys K.sited J.sited in
            let seen : Seen m'' is = record { marks = λ v. omega (arith, G.marks v, fresh.marks v, none_sum (cover (8 * v))) } in
            let fits = fits_seen seen (each_as (Sited f d u b) Eighth (λ i h. h.eighth) is S) (each_as (Sited f d u b) (Within d b) (λ i h. h.within) is S) in
            let slots =
            slots_each u (place_of f) is (each_as (Sited f d u b) (Slotted u (place_of f)) (λ i h. h.slotted) is S) fits.apart
            (omega (arith, G.slots, none.0, C.slots_are, eu, sum_as is_body bodied body_is is)) in
            let sound = sound_made {x = le 4 f at_x} slots fits (omega (arith, G.bytes, none.1, C.accounted, ed, eb)) in
            let h = H.header in (
              state_of (numbers_of (ruled false Ed) f) ls W.root,
              record {
                bytes = H.bytes;
                nums = numbers_of (ruled false Ed) f;
                lists = ls;
                root = W.root;
                heap = record {
                  header = h;
                  lists = lists_all f ls (omega arith) F.are;
                  clean = λ e. clash (cc);
                  sound = sound_as (ed ∙ h.data_at) eu eb (join (sym W.are) (sym F.items)) sound;
                };
                edition_is = refl;
                root_is = sym es ∙ sym W.slot;
                root_at = root_as (rule_of false Ed) f W.root W.at;
                counted = omega (arith, K.grown.leaves, none.2, C.leaves_are, ap (sum is_extent) W.are, root_leaves Ed f W.root W.at);
                state = refl;
              },
            )

        pub whole_good : (wiped : Bool) → Unmarked wiped f m' d b → Closed f q.slots q.bytes r.leaves → Good (ruled wiped Ed) f
        unfolding stands_closed
        whole_good wiped Z C = rule_good wiped Ed (stands_closed C) (λ e. clean_as ed (sym K.are.are) (swept_clean seen_live live_eighths live_high (Z.swept e)))
