-- A chain of Prefixes, measured from its top on: one Prefix at each turn is opened, until another kind stands there. Assumes nothing.
use Prim.Native.Nat.{ℕ, ◌+◌, ◌<◌, ◌≤◌}
use mathlib.Core.Path.{◌≡◌, refl, sym, ap, subst, ◌∙◌}
use mathlib.Core.List.{List, ◌∷◌, ◌++◌}
use native.Mathlib.Omega.{arith}
use lib.ListN.{length}
use Rattle.layout.specs.Number.{le}
use Rattle.layout.specs.Place.{prefix_length, prefix_child}
use Rattle.layout.specs.Kind.{prefix_kind}
use Rattle.layout.specs.Entry.{place_of, high_of}
use Rattle.model.specs.Edition.{Edition}
use Rattle.model.specs.Item.{body}
use Rattle.model.specs.Body.{PrefixAt}
use Rattle.model.specs.Frame.{Lay, slot_of, IsNode, Below, View}
use Rattle.model.specs.Frame.Lay.{leaf, prefix, node}
use Rattle.between.specs.Hole.{Step}
use Rattle.between.specs.Work.{Work}
use Rattle.between.proofs.WorkLaws.{entries_first, open_prefix}
use Rattle.chain.specs.Row.{Entered, run_long, run_many}
use Rattle.chain.proofs.RunLaws.{below_short}
use Rattle.chain.proofs.ReadLaws.{Stood, tree_stood, Pre, pre_of, entered_at}
use Rattle.plan.specs.Run.{Sunk, Sinks, Measured, RunAt, Begun, BeginningAt}

no_run : (t : Lay) → run_many t ≡ 0 → run_long t ≡ 0
no_run (leaf s o e k v) z = refl
no_run (prefix s o p l) z = absurd (omega arith)
no_run (node s o kind ks) z = refl

pub run_start : (f : List ℕ) (slot : ℕ) → Sinks f slot 0 slot
run_start f slot E h xs top path t ts loose W e = record { path = path; tip = t; loose = loose; work = W; slot = e; longs = omega arith }

module _ {E : Edition} {f : List ℕ} {h : View} {xs : List Step} {top : ℕ} {t : Lay} {ts : List (List ℕ × Lay)} {n s : ℕ} (R : Sunk E f h xs top t ts n s) where
  stands : Stood f R.tip
  stands = tree_stood R.path ts R.loose R.tip R.work

  sunk_end : (high_of f s ≡ 2 → ⊥) → n ≡ run_long t
  sunk_end k = omega (arith, R.longs, no_run R.tip (stands.other (λ z. k (sym (ap (high_of f) R.slot) ∙ z))))

  module _ (kind : high_of f s ≡ 2) where
    P : Pre R.tip
    P = pre_of R.tip (stands.same (ap (high_of f) R.slot ∙ kind))

    tip_is : R.tip ≡ prefix s P.o P.u P.l
    tip_is = P.is ∙ ap (λ y. prefix y P.o P.u P.l) R.slot

    opens : Work E f h xs top ((R.path ++ P.u, P.l) ∷ ts) (body s prefix_kind P.o ∷ R.loose) × PrefixAt f P.o P.u (slot_of P.l) × Below P.u P.l
    opens = open_prefix R.path ts R.loose s P.o P.u P.l (subst (λ y. Work E f h xs top ((R.path, y) ∷ ts) R.loose) tip_is R.work)

    place_is : place_of f s ≡ P.o
    place_is = (entries_first f s prefix_kind P.o R.loose opens.0.entries).0.place_is

    tip_long : run_long R.tip ≡ length P.u + run_long P.l
    tip_long = ap run_long tip_is

    module _ {o m : ℕ} (eo : o ≡ place_of f s) (em : m ≡ le 2 f (o + prefix_length)) where
      length_is : m ≡ length P.u
      length_is = em ∙ ap (λ i. le 2 f (i + prefix_length)) (eo ∙ place_is) ∙ opens.1.long

      sunk_bounds : (o + 128 ≤ length f) × (1 ≤ m) × (n + m ≤ run_long t)
      sunk_bounds =
          let q = length_is in
          let a = opens.1.some in
          (omega (arith, eo, place_is, opens.1.room), omega arith, omega (arith, R.longs, tip_long))

      sunk_step : {c : ℕ} → c ≡ le 4 f (o + prefix_child) → Sunk E f h xs top t ts (n + m) c
      sunk_step ec =
          record {
            path = R.path ++ P.u;
            tip = P.l;
            loose = body s prefix_kind P.o ∷ R.loose;
            work = opens.0;
            slot = sym opens.1.child ∙ ap (λ i. le 4 f (i + prefix_child)) (sym (eo ∙ place_is)) ∙ sym ec;
            longs = omega (arith, R.longs, tip_long, length_is);
          }

-- ---- turn by turn

module _ {f : List ℕ} {slot n s : ℕ} (S : Sinks f slot n s) where
  pub run_end : (high_of f s ≡ 2 → ⊥) → Measured f slot n
  run_end k E h xs top path t ts loose W e = sunk_end (S E h xs top path t ts loose W e) k

  pub run_step : high_of f s ≡ 2 → {o m c : ℕ} → o ≡ place_of f s → m ≡ le 2 f (o + prefix_length) → c ≡ le 4 f (o + prefix_child) → Sinks f slot (n + m) c
  run_step k eo em ec E h xs top path t ts loose W e = sunk_step (S E h xs top path t ts loose W e) k eo em ec

  module _ (A : RunAt f slot) where
    abbrev here : Sunk A.edition f A.view A.steps A.top A.tree A.trees n s
    here = S A.edition A.view A.steps A.top A.path A.tree A.trees A.loose A.work A.slot_is

    pub run_slot : Entered f s
    run_slot = entered_at (stands here) here.slot

    pub run_place : high_of f s ≡ 2 → {o : ℕ} → o ≡ place_of f s → o + 128 ≤ length f
    run_place k eo = (sunk_bounds here k eo refl).0

    pub run_more : high_of f s ≡ 2 → {o m : ℕ} → o ≡ place_of f s → m ≡ le 2 f (o + prefix_length) → (1 ≤ m) × (n + m < 65536)
    run_more k eo em = let B = sunk_bounds here k eo em in (B.1, omega (arith, B.2, A.short))

-- ---- from a Prefix on

node_short : (l : Lay) → IsNode l → run_long l ≡ 0
node_short (leaf s o e k v) I = absurd I
node_short (prefix s o p l) I = absurd I
node_short (node s o kind ks) I = refl

module _ {f : List ℕ} {o n : ℕ} (en : n ≡ le 2 f (o + prefix_length)) where
  pub begun_short : n < 112 → Begun f o n
  begun_short h E v xs top path p l ts loose W P B =
      let e : n ≡ length p = en ∙ P.long in
      omega (arith, node_short l (below_short p l B (omega arith)))

  pub begun_full : {c m : ℕ} → c ≡ le 4 f (o + prefix_child) → Measured f c m → Begun f o (n + m)
  begun_full ec M E v xs top path p l ts loose W P B =
      let e : n ≡ length p = en ∙ P.long in
      omega (arith, M E v xs top path l ts loose W (sym P.child ∙ sym ec))

module _ {f : List ℕ} {o : ℕ} (A : BeginningAt f o) where
  pub begun_below : {c : ℕ} → c ≡ le 4 f (o + prefix_child) → RunAt f c
  begun_below ec =
      record {
        edition = A.edition;
        view = A.view;
        steps = A.steps;
        top = A.top;
        path = A.path;
        tree = A.below;
        trees = A.trees;
        loose = A.loose;
        work = A.work;
        slot_is = sym A.at.child ∙ sym ec;
        short = omega (arith, A.short);
      }

  pub begun_fits : {n c m : ℕ} → n ≡ le 2 f (o + prefix_length) → c ≡ le 4 f (o + prefix_child) → Measured f c m → n + m < 65536
  begun_fits en ec M = omega (arith, begun_full en ec M A.edition A.view A.steps A.top A.path A.bytes A.below A.trees A.loose A.work A.at A.hangs, A.short)
