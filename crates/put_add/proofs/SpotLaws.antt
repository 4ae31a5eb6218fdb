-- The node without the byte, from what a descent found: what the change is, what the promise lets it touch, and the work it begins with.
-- Assumes nothing.
use Prim.Native.Nat.{ℕ}
use mathlib.Core.Path.{◌≡◌, refl, sym, ap, ◌∙◌}
use mathlib.Core.List.{List, [], ◌∷◌}
use mathlib.Core.Bool.{false}
use mathlib.Core.Option.{some}
use native.Mathlib.Omega.{arith}
use lib.ListN.{length, get_or, drop}
use Rattle.layout.specs.Kind.{leaf_kind, number_of}
use Rattle.model.specs.Edition.{Edition, Value}
use Rattle.model.specs.Tree.{Art, extent_of, over, new_key, put_tree}
use Rattle.model.specs.State.{State, put_change, put_in}
use Rattle.model.specs.Frame.{LayKids, art_kids, tree, root_art, View, Heap, Stands}
use Rattle.model.specs.Frame.Lay.{node}
use Rattle.model.specs.Touch.{has_byte}
use Rattle.room.specs.Book.{RoomFor}
use Rattle.between.specs.Hole.{Step, plug, path_of, art_in}
use Rattle.between.specs.Work.{Work}
use Rattle.between.specs.Lead.{Leads}
use Rattle.between.proofs.HoleLaws.{art_plug}
use Rattle.between.proofs.KidsLaws.{look_none}
use Rattle.between.proofs.WorkLaws.{stands_tree, stands_view, work_of, work_open}
use Rattle.between.proofs.LeadLaws.{leads_rest, leads_byte, hangs_in, plug_put}
use Rattle.descent.specs.declared.spot.Spot.{Spot}
use Rattle.descent.specs.Spot.{NoByte}
use Rattle.leaf_new.specs.Make.{Makes}
use Rattle.leaf_new.specs.Put.{PutReady, PutAt}
use Rattle.leaf_new.proofs.DoneLaws.{same_root}
use Rattle.put_add.specs.Missing.{Lacks}

-- ---- from the spot

module _ {E : Edition} {f k : List ℕ} {v : Value} {p : Spot} (A : PutAt E f k v p) (N : NoByte E k p A.way.sub) where
  rest_is : A.way.rest ≡ N.byte ∷ N.after
  rest_is = sym (leads_rest A.way.leads) ∙ ap (λ d. drop d (E.walked k)) (sym A.way.deep) ∙ N.next

  pub lacks_of : {st : State} (S : Stands E f st) → Lacks S k A.way.steps p.here.slot p.here.place (number_of p.here.kind) N.kids N.byte N.after
  lacks_of S =
      record {
        is = same_root A.ready.stands S (A.is ∙ ap tree (A.way.whole ∙ ap (plug A.way.steps) N.is));
        leads = rw rest_is at A.way.leads;
        absent = N.absent;
        lawful = A.ready.lawful;
        legal = A.ready.legal;
      }

  -- the key's byte, as the code reads it
  pub byte_is : get_or (E.walked k) p.depth 0 ≡ N.byte
  byte_is = let L : Leads E k A.way.steps (N.byte ∷ N.after) = rw rest_is at A.way.leads in ap (λ d. get_or (E.walked k) d 0) A.way.deep ∙ leads_byte L

-- ---- at the node

module _ {E : Edition} {f : List ℕ} {st : State} {S : Stands E f st} {k : List ℕ} {xs : List Step} {n o kind : ℕ} {ks : LayKids} {b : ℕ} {r : List ℕ} (P : Lacks S k xs n o kind ks b r) where
  pub lacks_byte : has_byte b ks ≡ false
  lacks_byte = look_none b ks P.absent

  -- the change happens at the node
  pub lacks_put : (v : Value) {a : Art} {takes frees : List ℕ} → put_tree E (Art.node kind (art_kids ks)) (length (path_of xs)) k v ≡ new_key k v a takes frees → put_change E st k v ≡ new_key k v (art_in xs a) takes frees
  lacks_put v e =
      ap (λ t. put_in E t k v) (ap (λ s. s.tree) S.state ∙ ap root_art P.is ∙ ap some (art_plug xs (node n o kind ks)))
      ∙ plug_put P.leads v (Art.node kind (art_kids ks)) (hangs_in E f xs (node n o kind ks) (stands_tree S (plug xs (node n o kind ks)) P.is)) ∙ ap (over (art_in xs)) e

  -- the tree opened at the node
  pub lacks_work : Work E f (stands_view S) xs n ((path_of xs, node n o kind ks) ∷ []) []
  lacks_work = (work_open xs (node n o kind ks) [] (work_of S (plug xs (node n o kind ks)) P.is) refl).0

-- ---- key, value and stamp fit their fields

pub ready_makes : {E : Edition} {f k : List ℕ} {v : Value} {f1 : List ℕ} {h : View} → PutReady E f k v → Heap f1 h → RoomFor h (leaf_kind ∷ []) (extent_of k v) → Makes f1 k v
ready_makes {k = k} {h = h} A H R =
    record { view = h; heap = H; room = R; key_fits = omega (arith, A.lawful.fields.keys k A.legal); value_fits = omega (arith, A.legal_value.passes); stamp_fits = let a = A.legal_value.stamp in let b = A.lawful.fields.stamps in omega arith }
