-- The first key at or above a bound in a good frame's tree, and the entry that it gives of a listing. Assumes nothing.
use Prim.Native.Nat.{ℕ, ◌+◌, ◌≤◌}
use mathlib.Core.Path.{◌≡◌, refl, sym, subst, ◌∙◌}
use mathlib.Core.List.{List, [], ◌∷◌, ◌++◌}
use mathlib.Core.Bool.{true, false}
use mathlib.Core.Option.{Option, some}
use lib.ListN.{length}
use Rattle.layout.specs.Number.{Bytes}
use Rattle.layout.specs.Kind.{leaf_kind, body_size}
use Rattle.model.specs.Edition.{Edition, Legal, Lawful, Value}
use Rattle.model.specs.Tree.{Art}
use Rattle.model.specs.Records.{Record, records, records_kids, AllKeys, Ascending}
use Rattle.model.specs.Body.{LeafAt}
use Rattle.model.specs.Frame.{Lay, LayKids, slot_of, atop, art, art_kids, Tree, Trees}
use Rattle.model.specs.Frame.Lay.{leaf, prefix, node}
use Rattle.model.specs.Frame.LayKids.{nil, kid}
use Rattle.model.proofs.StringLaws.{bool_cases, clash}
use Rattle.model.proofs.WellLaws.{ascending}
use Rattle.model.proofs.PackedLaws.{LegalRecords, legal_records}
use Rattle.model.proofs.StandsGood.{bytes_text, tree_well}
use Rattle.model.proofs.UniqueLaws.{tree_unique}
use Rattle.listing.specs.Listing.{begins, entry_for, names, after_start}
use Rattle.listing.specs.Seek.{Leafy, leaves, leaves_all, reach, first_from}
use Rattle.listing.specs.Bound.{above, KeysAlike}
use Rattle.listing.proofs.PageLaws.{first_none, first_some, left_none, left_past, left_some}
use Rattle.inside.specs.Inside.{Inside, InsideAll}
use Rattle.std.specs.Prelude.{Option as Optional, Some, None, MatchOption}
use Rattle.seek.specs.Sub.{Sub, Placed}
use Rattle.seek.specs.Seek.{SoughtAt, LeafSome}
use Rattle.names.specs.declared.entry.Entry.{Entry}
use Rattle.names.specs.Entry.{CutOut, OfKey, Heads, Next, EntryFrom}
use Rattle.seek.proofs.LeafLaws.{key_there}
use Rattle.names.proofs.EditionLaws.{Naming, part_bytes}
use Rattle.names.proofs.CutLaws.{entry_twice}

-- ---- the records of a tree, and its Leaves

atop_records : (p : List ℕ) (a : Art) → records (atop p a) ≡ records a
atop_records p (Art.leaf k v) = refl
atop_records p (Art.prefix q a) = refl
atop_records p (Art.node kind ks) = refl

alike_append : (rs qs : List Record) (xs ys : List Leafy) → KeysAlike rs xs → KeysAlike qs ys → KeysAlike (rs ++ qs) (xs ++ ys)
alike_append [] qs [] ys A B = B
alike_append [] qs (x ∷ xs) ys A B = absurd A
alike_append (r ∷ rs) qs [] ys A B = absurd A
alike_append (r ∷ rs) qs (x ∷ xs) ys A B = (A.0, alike_append rs qs xs ys A.1 B)

mutual
  alike : (l : Lay) → KeysAlike (records (art l)) (leaves l)
  alike (leaf s o e k v) = (refl, tt)
  alike (prefix s o p l) = rw (atop_records p (art l)) (alike l)
  alike (node s o kind ks) = alike_all ks

  alike_all : (ks : LayKids) → KeysAlike (records_kids (art_kids ks)) (leaves_all ks)
  alike_all nil = tt
  alike_all (kid b j l ks) = alike_append (records (art l)) (records_kids (art_kids ks)) (leaves l) (leaves_all ks) (alike l) (alike_all ks)

legal_keys : (E : Edition) (rs : List Record) → LegalRecords E rs → AllKeys (Legal E) rs
legal_keys E [] h = tt
legal_keys E (r ∷ rs) h = (h.0, legal_keys E rs h.2)

pub tree_records : {E : Edition} → Lawful E → (f path : List ℕ) (l : Lay) → Bytes f → Tree E f path l → Ascending (records (art l)) × AllKeys (Legal E) (records (art l))
tree_records {E} L f path l B T =
    let W = tree_well E f B path l T in
    (ascending L (art l) path W, legal_keys E (records (art l)) (legal_records L (art l) path W))

-- a Leaf's body and key in the frame
record LeafHere (E : Edition) (f : List ℕ) (x : Leafy) : Type 0 where
  pub extent : ℕ
  pub value : Value
  pub at : LeafAt f x.place extent x.key value
  pub room : x.place + body_size leaf_kind ≤ length f
  pub legal : Legal E x.key

abbrev AllHere : Edition → List ℕ → List Leafy → Type 0
AllHere E f [] = Unit {0}
AllHere E f (x ∷ xs) = LeafHere E f x × AllHere E f xs

here_append : (E : Edition) (f : List ℕ) (xs ys : List Leafy) → AllHere E f xs → AllHere E f ys → AllHere E f (xs ++ ys)
here_append E f [] ys A B = B
here_append E f (x ∷ xs) ys A B = (A.0, here_append E f xs ys A.1 B)

module _ (E : Edition) (f : List ℕ) (B : Bytes f) where
  mutual
    unfolding Tree Trees Inside InsideAll

    tree_here : (path : List ℕ) (l : Lay) → Inside f l → Tree E f path l → AllHere E f (leaves l)
    tree_here path (leaf s o e k v) I T =
        (record { extent = e; value = v; at = T.1.at; room = I.1; legal = record { passes = T.1.legal; bytes = bytes_text f e k B (key_there T.1.at) } }, tt)
    tree_here path (prefix s o p l) I T = tree_here (path ++ p) l I.1 T.3
    tree_here path (node s o kind ks) I T = trees_here path ks I.1 T.2

    trees_here : (path : List ℕ) (ks : LayKids) → InsideAll f ks → Trees E f path ks → AllHere E f (leaves_all ks)
    trees_here path nil I T = tt
    trees_here path (kid b j l ks) I T = here_append E f (leaves l) (leaves_all ks) (tree_here (path ++ b ∷ []) l I.0 T.0) (trees_here path ks I.1 T.1)

here_first : (E : Edition) (f g : List ℕ) (t : ℕ) (xs : List Leafy) (x : Leafy) → AllHere E f xs → first_from g t xs ≡ some x → LeafHere E f x
here_first E f g t [] x A e = clash (cc)
here_first E f g t (y ∷ xs) x A e = bool_cases (reach g t y.key)
    (λ u. let q : some y ≡ some x = rw u at e in let w : y ≡ x = cc in rw (← w) A.0)
    (λ u. here_first E f g t xs x A.1 (rw u at e))

-- ---- what is sought in the tree at a slot

-- of the tree at a slot, whatever path it is said to have
pub of_sub : {E : Edition} {f : List ℕ} {root : ℕ} (S : Sub E f root 0) (P : Lay → Type 0) → P S.lay → (path : List ℕ) (l : Lay) → Tree E f path l → slot_of l ≡ root → P l
of_sub {E} {f} {root} S P h path l T q = subst P (tree_unique E f S.path path S.lay l S.tree T (S.slot_is ∙ sym q)) h

module _ {E : Edition} (N : Naming E) {f : List ℕ} (g : List ℕ) (t : ℕ) {root : ℕ} (S : Sub E f root 0) where
  abbrev rs : List Record
  rs = records (art S.lay)

  facts : Ascending rs
  facts = (tree_records N.lawful f S.path S.lay S.bytes S.tree).0

  -- no key is at or above the bound
  pub entry_gone : (p : List ℕ) (d : Option ℕ) → SoughtAt E f g t root None → EntryFrom E f root p d g t None
  entry_gone p d K =
      of_sub S (λ (l : Lay). begins p g ≡ true → (z : Option (List ℕ)) → names d p (above g t (records (art l))) ≡ after_start z (names d p (records (art l)))
      → Next E f p d (records (art l)) (after_start z (names d p (records (art l)))) None)
      (λ b z left.
      let none_left = first_none g t rs (leaves S.lay) (alike S.lay) (K S.path S.lay S.tree S.slot_is).at in
      record { is = left_none d p g t rs z facts left none_left })

  module _ {place : ℕ} (K : SoughtAt E f g t root (Some place)) where
    placed : Placed (first_from g t (leaves S.lay)) place
    placed = (K S.path S.lay S.tree S.slot_is).at

    here : LeafHere E f placed.leaf
    here = here_first E f g t (leaves S.lay) placed.leaf (tree_here E f S.bytes S.path S.lay S.inside S.tree) placed.is

    leaf_at : LeafAt f place here.extent placed.leaf.key here.value
    leaf_at = rw placed.place at here.at

    pub sought_leaf : LeafSome E f place
    sought_leaf = record { extent = here.extent; key = placed.leaf.key; value = here.value; at = leaf_at; room = rw placed.place at here.room; legal = here.legal }

    -- the first key that is
    pub entry_there : (p : List ℕ) (d : Option ℕ) {r : Optional Entry} → ((x : ℕ) (k : List ℕ) (v : Value) → LeafAt f place x k v → OfKey f p d k r) → EntryFrom E f root p d g t r
    entry_there p d {r} O =
        of_sub S (λ (l : Lay). begins p g ≡ true → (z : Option (List ℕ)) → names d p (above g t (records (art l))) ≡ after_start z (names d p (records (art l)))
        → Next E f p d (records (art l)) (after_start z (names d p (records (art l)))) r)
        (λ b z left. record { is = go r (O here.extent placed.leaf.key here.value leaf_at).is b z left })
      where
        go : (r : Optional Entry) → MatchOption r (begins p placed.leaf.key ≡ false) (CutOut f p d placed.leaf.key) → begins p g ≡ true → (z : Option (List ℕ)) → names d p (above g t rs) ≡ after_start z (names d p rs)
            → MatchOption r (after_start z (names d p rs) ≡ []) (Heads E f p d rs (after_start z (names d p rs)))
        go None y b z left = left_past d p g t rs z facts left b (first_some g t rs (leaves S.lay) placed.leaf (alike S.lay) placed.is) y
        go (Some e) C b z left =
            let k = placed.leaf.key in
            let w = entry_twice d p k C.matches in
            record {
              text = entry_for d p k;
              inside = C.inside;
              is = C.text;
              legal = record { passes = N.entries d p k here.legal.passes; bytes = rw C.text at (part_bytes f e.at e.long S.bytes) };
              matches = w.0;
              own = w.1;
              tail = C.tail ∙ sym w.2;
              first = left_some d p g t rs z facts left (first_some g t rs (leaves S.lay) placed.leaf (alike S.lay) placed.is) C.matches;
            }
