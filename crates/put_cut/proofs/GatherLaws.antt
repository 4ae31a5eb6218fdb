-- The bytes of a Prefix from some byte on, and those of the chain below it. Assumes nothing.
use Prim.Native.Nat.{ℕ, ◌+◌, ◌-◌, ◌≤◌}
use mathlib.Core.Path.{◌≡◌, refl, sym, ap, ◌∙◌}
use mathlib.Core.List.{List, [], ◌++◌, append-nil}
use native.Mathlib.Omega.{arith}
use lib.ListN.{length, take, drop, length-append, length-drop}
use lib.Seq.{get_or-drop}
use Rattle.layout.specs.Number.{le}
use Rattle.layout.specs.Place.{prefix_bytes, prefix_length, prefix_child}
use Rattle.layout.specs.Entry.{high_of}
use Rattle.model.specs.Edition.{Edition}
use Rattle.model.specs.Item.{Item}
use Rattle.model.specs.Body.{Text}
use Rattle.model.specs.Frame.{Lay, View}
use Rattle.model.specs.Frame.Lay.{leaf, prefix, node}
use Rattle.moves.specs.Pasted.{Pasted}
use Rattle.between.specs.Hole.{Step}
use Rattle.between.proofs.WorkLaws.{work_path}
use Rattle.chain.specs.Row.{row_items, unwound, bodies_of, bytes_of, tip_of, run_many, Opened, RowRead, Reads}
use Rattle.chain.proofs.ReadLaws.{tree_stood, text_step}
use Rattle.put_cut.specs.After.{Gathering, Gathered, Gathers, RunGathered}

-- a tree that is no Prefix has no run
pub bare_run : (t : Lay) → run_many t ≡ 0 → (◌≡◌ {A = List (ℕ × ℕ)} (bodies_of t) []) × (bytes_of t ≡ []) × (tip_of t ≡ t)
bare_run (leaf s o e k v) z = (refl, refl, refl)
bare_run (prefix s o p l) z = absurd (omega arith)
bare_run (node s o kind ks) z = (refl, refl, refl)

module _ {E : Edition} {f : List ℕ} {h : View} {xs : List Step} {s : ℕ} {path p : List ℕ} {l : Lay} {ts : List (List ℕ × Lay)} {rs : List (ℕ × ℕ)} {loose : List Item} {row : List ℕ} {o q have : ℕ}
    (G : Gathering E f h xs s path p l ts rs loose row o q have) where
  -- what is pasted
  pub first_text : {b mid : List ℕ} (n m : ℕ) → n ≡ length p → m ≡ n - q → n - q ≤ length b → Pasted b mid 0 (length (take m (drop (o + prefix_bytes + q) f))) (take m (drop (o + prefix_bytes + q) f)) → take (n - q) mid ≡ drop q p
  first_text {b} {mid} n m en em fits P =
      let A = G.at in
      let d = length-drop q p in
      let some = G.some in
      let T : Text f (o + prefix_bytes + q) (drop q p) = λ i h. (let e : o + prefix_bytes + q + i ≡ o + prefix_bytes + (q + i) = omega arith in rw e (A.text (q + i) (omega arith) ∙ sym (get_or-drop q p i 0))) in
      let e : 0 + m ≡ n - q = omega arith in
      ap (λ i. take i mid) (sym e) ∙ text_step b mid f (drop q p) 0 m (o + prefix_bytes + q) P T (omega arith) (omega arith) (omega (arith, A.room, A.most))

  module _ {row' mid bytes : List ℕ} {long count n r : ℕ} (R : Opened E f h xs s (path ++ p) l ts rs loose row' mid bytes long count n r) (bare : high_of f r ≡ 2 → ⊥) (first : take long mid ≡ drop q p) (el : long ≡ length p - q)
      (fits : n ≤ length bytes) where
    pub gathered : Gathered E f h xs s path p l ts rs loose row' bytes q count n r
    gathered =
        let S = tree_stood ((path ++ p) ++ R.p) ts (row_items R.more (row_items rs loose)) R.tip R.work in
        let B = bare_run R.tip (S.other (λ z. bare (ap (high_of f) (sym R.slot) ∙ z))) in
        let ep : R.p ≡ bytes_of l = sym (append-nil R.p) ∙ ap (λ y. R.p ++ y) (sym B.1) ∙ R.string in
        record {
          more = R.more;
          tip = R.tip;
          work = work_path R.tip (ap (λ y. (path ++ p) ++ y) ep) R.work;
          named = R.named;
          many = R.many;
          slot = R.slot;
          tip_is = sym B.2 ∙ R.tips;
          run = ap (λ (y : List (ℕ × ℕ)). unwound R.more y) (sym B.0) ∙ R.run;
          text = R.text ∙ ap (λ y. y ++ R.p) first ∙ ap (λ y. drop q p ++ y) ep;
          long = omega (arith, R.ends, length-append (drop q p) (bytes_of l), length-drop q p, ap length ep);
          in_row = fits;
        }

-- ---- what is asked, and what is told of every work

module _ {f row bytes : List ℕ} {o q have : ℕ} (A : Gathers f row bytes o q have) {n child : ℕ} (en : n ≡ le 2 f (o + prefix_length)) (ec : child ≡ le 4 f (o + prefix_child)) where
  long_is : n ≡ length A.string
  long_is = en ∙ A.gathering.at.long

  pub gather_fits : (q ≤ n) × (n ≤ 112) × (o + 128 ≤ length f) × (n - q ≤ length bytes)
  gather_fits =
      let e = long_is in
      let G = A.gathering in
      (omega (arith, G.some), omega (arith, G.at.most), G.at.room, omega (arith, A.bytes_fit))

  pub gather_reads : {mid : List ℕ} → length mid ≡ length bytes → Reads f row mid child have (n - q)
  gather_reads l =
      let e = long_is in
      let G = A.gathering in
      record {
        edition = A.edition;
        view = A.view;
        steps = A.steps;
        top = A.top;
        path = A.path ++ A.string;
        tree = A.below;
        trees = A.trees;
        held = A.held;
        loose = A.loose;
        work = G.work;
        named = G.named;
        many = G.many;
        slot_is = sym (ec ∙ G.at.child);
        row_fits = A.row_fits;
        bytes_fit = omega (arith, A.bytes_fit);
        low = A.low;
        short = omega (arith, A.short);
      }

  abbrev part : List ℕ
  part = take (o + prefix_bytes + n - (o + prefix_bytes + q)) (drop (o + prefix_bytes + q) f)

  module _ {mid row' bytes' : List ℕ} {count long r : ℕ} (P : Pasted bytes mid 0 (length part) part)
      (R : RowRead f row row' mid bytes' child have (n - q) count long r) (bare : high_of f r ≡ 2 → ⊥) (size : length bytes' ≡ length bytes) where
    in_row : long ≤ length bytes'
    in_row =
        let G = A.gathering in
        let O = R A.edition A.view A.steps A.top (A.path ++ A.string) A.below A.trees A.held A.loose G.work G.named G.many (sym (ec ∙ G.at.child)) in
        omega (arith, O.ends, O.longs, A.bytes_fit, long_is)

    pub gather_done : RunGathered f row row' bytes' o q have count long r
    gather_done E h xs s path p l ts rs loose G =
        let e : n ≡ length p = en ∙ G.at.long in
        gathered G (R E h xs s (path ++ p) l ts rs loose G.work G.named G.many (sym (ec ∙ G.at.child))) bare (first_text G n (o + prefix_bytes + n - (o + prefix_bytes + q)) e (omega arith) gather_fits.3 P) (omega arith) in_row
