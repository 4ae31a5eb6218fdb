-- A run is freed, body by body from its first. Assumes nothing.
use Prim.Native.Nat.{ℕ, zero, suc, ◌+◌, ◌-◌, ◌≤◌}
use mathlib.Core.Path.{◌≡◌, refl, sym, ap, subst, ◌∙◌}
use mathlib.Core.List.{List, ◌∷◌, ◌++◌, append_assoc, append-nil}
use native.Mathlib.Omega.{arith}
use lib.ListN.{length}
use Rattle.layout.specs.Number.{le}
use Rattle.layout.specs.Place.{prefix_child}
use Rattle.layout.specs.Kind.{prefix_kind}
use Rattle.layout.specs.Entry.{place_of, high_of}
use Rattle.model.specs.Edition.{Edition}
use Rattle.model.specs.Tree.{prefixes}
use Rattle.model.specs.Item.{Item, body}
use Rattle.model.specs.Body.{PrefixAt}
use Rattle.model.specs.Frame.{Lay, slot_of, Below, View}
use Rattle.model.specs.Frame.Lay.{leaf, prefix, node}
use Rattle.room.specs.View.{released}
use Rattle.room.specs.Step as step
use Rattle.between.specs.Hole.{Step, steps_items}
use Rattle.between.specs.Work.{forest_items, Work}
use Rattle.between.specs.Edit.{Booked}
use Rattle.between.proofs.WorkLaws.{entries_first, first_owns, work_path, work_free, open_prefix}
use Rattle.between.proofs.SinceLaws.{since_free}
use Rattle.between.proofs.BookedLaws.{booked_free}
use Rattle.chain.specs.Row.{Entered, run_many, bodies_of, bytes_of, tip_of}
use Rattle.chain.specs.Shift.{Freed, RunFreed, Frees}
use Rattle.chain.proofs.TakeLaws.{prefix_kind_lem}
use Rattle.chain.proofs.ReadLaws.{tree_stood, entered_at}
use Rattle.chain.proofs.RunLaws.{Release}
use Rattle.chain.proofs.FillLaws.{Opens, opens_of}

one_later : (n : ℕ) (fs : List ℕ) → prefixes n ++ prefix_kind ∷ fs ≡ prefixes (suc n) ++ fs
one_later zero fs = refl
one_later (suc n) fs = ap (λ (l : List ℕ). prefix_kind ∷ l) (one_later n fs)

-- no run
freed_none : {E : Edition} {f : List ℕ} {h : View} {xs : List Step} {s : ℕ} {path : List ℕ} {ts : List (List ℕ × Lay)} {loose : List Item} (t : Lay) → Work E f h xs s ((path, t) ∷ ts) loose → run_many t ≡ 0
    → Freed E f f h xs s path t ts loose
freed_none {h = h} {path = path} (leaf n o e k v) W z =
    record { view = h; work = work_path (leaf n o e k v) (sym (append-nil path)) W; booked = λ h0 ks fs x d r B. B; since = λ f0 h0 bs ws gs es Z. Z }
freed_none (prefix n o p t) W z = absurd (omega arith)
freed_none {h = h} {path = path} (node n o kind ks) W z =
    record { view = h; work = work_path (node n o kind ks) (sym (append-nil path)) W; booked = λ h0 ks fs x d r B. B; since = λ f0 h0 bs ws gs es Z. Z }

-- the first body, of slot n at o
module _ {E : Edition} {f : List ℕ} {h : View} {xs : List Step} {s : ℕ} {path : List ℕ} {ts : List (List ℕ × Lay)} {loose : List Item} (n o : ℕ) (p : List ℕ) (t : Lay) (W : Work E f h xs s ((path, prefix n o p t) ∷ ts) loose) where
  opened : Work E f h xs s ((path ++ p, t) ∷ ts) (body n prefix_kind o ∷ loose) × PrefixAt f o p (slot_of t) × Below p t
  opened = open_prefix path ts loose n o p t W

  abbrev rest : List Item
  rest = loose ++ (steps_items xs ++ forest_items ((path ++ p, t) ∷ ts))

  placed : place_of f n ≡ o
  placed = (entries_first f n prefix_kind o loose opened.0.entries).0.place_is

  first_frees : step.Frees f n prefix_kind
  first_frees = record { view = h; heap = W.heap; kind = prefix_kind_lem; place = o; rest = rest; owns = first_owns opened.0; place_is = placed }

  module _ {f1 : List ℕ} (R : Release f f1 n prefix_kind) where
    F : step.Freed f f1 h n prefix_kind o rest
    F = R h o rest W.heap (first_owns opened.0) placed

    left_work : Work E f1 (released h n prefix_kind o rest) xs s ((path ++ p, t) ∷ ts) loose
    left_work = work_free opened.0 F

    freed_first : {g : List ℕ} → Freed E f1 g (released h n prefix_kind o rest) xs s (path ++ p) t ts loose → Freed E f g h xs s path (prefix n o p t) ts loose
    freed_first X =
        record {
          view = X.view;
          work = work_path (tip_of t) (append_assoc path p (bytes_of t)) X.work;
          booked = λ h0 ks fs x d r B. subst (λ (l : List ℕ). Booked h0 X.view ks l x d r) (one_later (length (bodies_of t)) fs) (X.booked h0 ks (prefix_kind ∷ fs) x d r (booked_free B n prefix_kind o rest prefix_kind_lem));
          since = λ f0 h0 bs ws gs es Z. X.since f0 h0 bs ws (body n prefix_kind o ∷ gs) es (since_free prefix_kind_lem W.heap (first_owns opened.0) Z F);
        }

-- ---- the loop

module _ {f : List ℕ} {slot : ℕ} where
  pub free_none : (high_of f slot ≡ 2 → ⊥) → RunFreed f f slot
  free_none d E h xs s path t ts loose W e = freed_none t W ((tree_stood path ts loose t W).other (λ z. d (ap (high_of f) (sym e) ∙ z)))

  module _ {low : ℕ} (kind : high_of f slot ≡ 2) (el : low ≡ place_of f slot) where
    pub free_first : {f1 : List ℕ} {c : ℕ} → c ≡ le 4 f (low + prefix_child) → Release f f1 slot prefix_kind → (g : List ℕ) → RunFreed f1 g c → RunFreed f g slot
    free_first ec R g X E h xs s path t ts loose W e =
        let O = opens_of path t ts loose W e kind el in
        let W' = subst (λ y. Work E f h xs s ((path, y) ∷ ts) loose) O.is W in
        subst (λ y. Freed E f g h xs s path y ts loose) (sym O.is)
        (freed_first slot low O.text O.under W' R (X E _ xs s _ O.under ts loose (left_work slot low O.text O.under W' R) (sym (opened slot low O.text O.under W').1.child ∙ sym ec)))

  -- what the code counts on
  module _ {left : ℕ} (Z : Frees f slot left) where
    pub frees_slot : Entered f slot
    frees_slot = entered_at (tree_stood Z.path Z.trees Z.loose Z.tree Z.work) Z.slot_is

    module _ {low : ℕ} (kind : high_of f slot ≡ 2) (el : low ≡ place_of f slot) where
      O : Opens Z.tree slot low
      O = opens_of Z.path Z.tree Z.trees Z.loose Z.work Z.slot_is kind el

      W' : Work Z.edition f Z.view Z.steps Z.top ((Z.path, prefix slot low O.text O.under) ∷ Z.trees) Z.loose
      W' = subst (λ y. Work Z.edition f Z.view Z.steps Z.top ((Z.path, y) ∷ Z.trees) Z.loose) O.is Z.work

      Q : PrefixAt f low O.text (slot_of O.under)
      Q = (opened slot low O.text O.under W').1

      pub frees_room : low + 128 ≤ length f
      frees_room = Q.room

      pub frees_first : step.Frees f slot prefix_kind
      frees_first = first_frees slot low O.text O.under W'

      pub frees_left : 1 ≤ left
      frees_left = omega (arith, Z.few, ap (λ y. length (bodies_of y)) O.is)

      pub frees_again : {f1 : List ℕ} {c l : ℕ} → c ≡ le 4 f (low + prefix_child) → Release f f1 slot prefix_kind → l ≡ left - 1 → Frees f1 c l
      frees_again ec R e =
          record {
            edition = Z.edition;
            view = _;
            steps = Z.steps;
            top = Z.top;
            path = _;
            tree = O.under;
            trees = Z.trees;
            loose = Z.loose;
            work = left_work slot low O.text O.under W' R;
            slot_is = sym Q.child ∙ sym ec;
            few = omega (arith, Z.few, ap (λ y. length (bodies_of y)) O.is);
          }
