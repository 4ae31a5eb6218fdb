-- A good frame is zero where nothing live stands: in freed bodies, in dead extents and from B on. By the rule from before it need not be, and
-- the rest of that rule is the same. Assumes nothing.
use Prim.Native.Nat.{ℕ, ◌≤◌}
use mathlib.Core.Path.{◌≡◌, refl, ap, ◌∙◌}
use mathlib.Core.List.{List, [], ◌∷◌, ◌++◌}
use mathlib.Core.Bool.{true}
use native.Mathlib.Omega.{arith}
use native.Mathlib.Decide.{dec_lt}
use Rattle.layout.specs.Number.{le}
use Rattle.layout.specs.Place.{at_d, data_start}
use Rattle.model.specs.Edition.{Edition, edition1, before1, Legal, Lawful, Value}
use Rattle.model.specs.State.{State}
use Rattle.model.specs.Item.{cover, sum}
use Rattle.model.specs.Frame.{Lay, LayKids, Root, bare, tree, root_items, Tree, Trees, RootAt, LeafOf, freed, Clean, Stands, Good}
use Rattle.model.specs.Frame.Lay.{leaf, prefix, node}
use Rattle.model.specs.Frame.LayKids.{nil, kid}
use Rattle.model.proofs.StringLaws.{clash}
use Rattle.model.proofs.ItemLaws.{sum_app}
use Rattle.model.proofs.Edition1.{lawful1}

pub stands_clean : {E : Edition} {f : List ℕ} {s : State} (w : Stands E f s) → E.wiped ≡ true → Clean f (le 4 f at_d) (root_items w.root)
stands_clean w e = rw w.heap.header.data_at (w.heap.clean (ap (λ (X : Edition). X.wiped) w.edition_is ∙ e))

-- what a freed body covers
pub freed_bare : {E : Edition} {f : List ℕ} {s : State} (w : Stands E f s) (a : ℕ) → 1 ≤ sum (cover a) (freed 1 w.lists) → (data_start w.nums.N ≤ a) × (sum (cover a) (root_items w.root) ≡ 0)
freed_bare w a h =
    let S = w.heap.sound in
    let e = sum_app (cover a) (root_items w.root) (freed 1 w.lists) in
    (elim (dec_lt a (data_start w.nums.N)) [ yes q ↦ absurd (omega (arith, S.low a q)) | no q ↦ omega arith ], omega (arith, S.apart a))

-- ---- the rule from before

legal1 : {k : List ℕ} → Legal before1 k → Legal edition1 k
legal1 L = record { passes = L.passes; bytes = L.bytes }

pub lawful_before : Lawful before1
lawful_before = record {
  bytes = λ k h. lawful1.bytes k (legal1 h);
  short = λ k h. lawful1.short k (legal1 h);
  apart = λ k l t h g e. lawful1.apart k l t (legal1 h) (legal1 g) e;
  order = λ w x y b s c t h g e f l. lawful1.order w x y b s c t (legal1 h) (legal1 g) e f l;
  fields = record { number = lawful1.fields.number; keys = λ k h. lawful1.fields.keys k (legal1 h); words = lawful1.fields.words; stamps = lawful1.fields.stamps };
}

-- two editions of one number that take the same keys and walk them alike
pub record SameKeys (E G : Edition) : Type 0 where
  pub number : E.number ≡ G.number
  pub faults : (k : List ℕ) → G.key_fault k ≡ E.key_fault k
  pub walks : (k : List ℕ) → G.walked k ≡ E.walked k
  pub stamps : G.stamps ≡ E.stamps

module _ {E G : Edition} (same : SameKeys E G) (f : List ℕ) where
  leaf_as : {path : List ℕ} {o e : ℕ} {k : List ℕ} {v : Value} → LeafOf E f path o e k v → LeafOf G f path o e k v
  leaf_as {k = k} L = record { at = L.at; eights = L.eights; legal = same.faults k ∙ L.legal; begins = rw (same.walks k) L.begins; stamped = rw same.stamps L.stamped }

  mutual
    unfolding Tree Trees

    tree_as : (path : List ℕ) (l : Lay) → Tree E f path l → Tree G f path l
    tree_as path (leaf s o e k v) T = (T.0, leaf_as T.1)
    tree_as path (prefix s o p l) T = (T.0, T.1, T.2, tree_as (path ++ p) l T.3)
    tree_as path (node s o kind ks) T = (T.0, T.1, trees_as path ks T.2)

    trees_as : (path : List ℕ) (ks : LayKids) → Trees E f path ks → Trees G f path ks
    trees_as path nil T = tt
    trees_as path (kid b j l ks) T = (tree_as (path ++ b ∷ []) l T.0, trees_as path ks T.1)

  pub root_as : (r : Root) → RootAt E f r → RootAt G f r
  unfolding RootAt
  root_as (bare s o) T = T
  root_as (tree l) T = tree_as [] l T

  pub stands_as : {s : State} (w : Stands E f s) → (G.wiped ≡ true → Clean f (le 4 f at_d) (root_items w.root)) → Stands G f s
  stands_as w clean =
      let n = w.nums in
      let H = w.heap.header in
      record {
        bytes = w.bytes;
        nums = record { edition = G; F = n.F; N = n.N; B = n.B; U = n.U; R = n.R; X = n.X; root = n.root };
        lists = w.lists;
        root = w.root;
        heap = record {
          header = record {
            size = H.size;
            limits = H.limits;
            edition = H.edition ∙ ap (λ (X : Edition). X.number) w.edition_is ∙ same.number;
            stored = H.stored;
            slots_at = H.slots_at;
            slot_cap = H.slot_cap;
            data_at = H.data_at;
            bump_at = H.bump_at;
            bump_in = H.bump_in;
            given_at = H.given_at;
            given_in = H.given_in;
            records_at = H.records_at;
            dead_at = H.dead_at;
            root_at = H.root_at;
            spare = H.spare;
            above = H.above;
          };
          lists = w.heap.lists;
          clean = λ e. rw H.data_at at (clean e);
          sound = w.heap.sound;
        };
        edition_is = refl;
        root_is = w.root_is;
        root_at = root_as w.root w.root_at;
        counted = w.counted;
        state = w.state;
      }

to_before : SameKeys edition1 before1
to_before = record { number = refl; faults = λ k. refl; walks = λ k. refl; stamps = refl }

from_before : SameKeys before1 edition1
from_before = record { number = refl; faults = λ k. refl; walks = λ k. refl; stamps = refl }

-- what is good by the new rule is good by the old one, and stands for the same; and back, where it is clean
pub stands_before : {f : List ℕ} {s : State} → Stands edition1 f s → Stands before1 f s
stands_before {f} w = stands_as to_before f w (λ e. clash (cc))

pub stands_now : {f : List ℕ} {s : State} (w : Stands before1 f s) → Clean f (le 4 f at_d) (root_items w.root) → Stands edition1 f s
stands_now {f} w C = stands_as from_before f w (λ e. C)

pub good_before : {f : List ℕ} → Good edition1 f → Good before1 f
good_before G = (G.0, stands_before G.1)
