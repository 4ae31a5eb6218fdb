-- A Prefix without its first byte: `drop_first`, exit by exit. Assumes nothing.
use Prim.Native.Nat.{ℕ, ◌+◌, ◌<◌, ◌≤◌}
use mathlib.Core.Path.{◌≡◌, refl, sym, ap, ◌∙◌}
use mathlib.Core.List.{List, [], ◌∷◌, ◌++◌}
use native.Mathlib.Omega.{arith}
use native.Mathlib.Decide.{dec_lt}
use lib.ListN.{length, take, drop}
use lib.Seq.{take_all}
use Rattle.layout.specs.Number.{le}
use Rattle.layout.specs.Place.{prefix_child, prefix_length}
use Rattle.layout.specs.Kind.{prefix_kind}
use Rattle.layout.specs.Entry.{high_of}
use Rattle.model.specs.Item.{body, cover}
use Rattle.model.specs.Frame.{slot_of, IsNode}
use Rattle.model.specs.Frame.Lay.{prefix}
use Rattle.model.proofs.ItemLaws.{sum_cons}
use Rattle.model.proofs.OneBody.{node_below}
use Rattle.room.proofs.HeapLaws.{cover_body}
use Rattle.between.proofs.ChangeLaws.{changed_none, changed_only}
use Rattle.between.proofs.WorkLaws.{work_path, work_write, make_prefix}
use Rattle.prefix_body.specs.Prefix.{Longer, Shortened}
use Rattle.chain.specs.Row.{Entered, row_items, bodies_of, bytes_of}
use Rattle.chain.proofs.ReadLaws.{tree_stood, entered_at}
use Rattle.put_cut.specs.After.{FirstDropped, Drops}
use Rattle.put_cut.proofs.RunLists.{none_past, path_parts, bare_node}
use Rattle.put_cut.proofs.UpLaws.{opens}

not_one : {a m : ℕ} → m ≡ a → 1 ≤ a → (m ≡ 1 → ⊥) → 1 < a
not_one {a} e l n = elim (dec_lt 1 a) [
  | yes y ↦ y
  | no y ↦ absurd (n (omega arith))
]

module _ {f : List ℕ} {n o : ℕ} (A : Drops f n o) where
  pub drop_room : o + 128 ≤ length f
  drop_room = (opens A.work).1.room

  pub drop_entry : {c : ℕ} → c ≡ le 4 f (o + prefix_child) → Entered f c
  drop_entry e =
      let O = opens A.work in entered_at (tree_stood (A.path ++ A.bytes) A.trees (body n prefix_kind o ∷ A.loose) A.below O.0) (sym (e ∙ O.1.child))

  pub drop_longer : {m : ℕ} → m ≡ le 2 f (o + prefix_length) → (m ≡ 1 → ⊥) → Longer f o 1
  drop_longer e n1 = let P = (opens A.work).1 in record { bytes = A.bytes; below = slot_of A.below; at = P; more = not_one (e ∙ P.long) P.some n1 }

-- only that byte: what is below is left
pub drop_all_of : {f : List ℕ} {n o m c : ℕ} → m ≡ le 2 f (o + prefix_length) → m ≡ 1 → c ≡ le 4 f (o + prefix_child) → FirstDropped f f n o c 1
drop_all_of {f} {n} {o} {m} {c} em e1 ec E h xs s path p l ts loose W =
    let O = opens W in
    let lp : length p ≡ 1 = omega (arith, O.1.long) in
    record {
      lay = l;
      work = work_path l (ap (λ y. path ++ y) (sym (take_all 1 p (omega arith)))) O.0;
      slot = sym (ec ∙ O.1.child);
      few = omega arith;
      run = refl;
      string = ap (λ y. y ++ bytes_of l) (sym (none_past 1 p (omega arith)));
      tip = refl;
      changed = changed_none f _;
    }

-- others besides, and no Prefix below
pub drop_one_of : {f g : List ℕ} {n o m c : ℕ} → m ≡ le 2 f (o + prefix_length) → (m ≡ 1 → ⊥) → c ≡ le 4 f (o + prefix_child) → (high_of f c ≡ 2 → ⊥) → Shortened f g o 1 → FirstDropped f g n o n 0
drop_one_of {f} {g} {n} {o} {m} {c} em n1 ec bare D E h xs s path p l ts loose W =
    let O = opens W in
    let i = body n prefix_kind o in
    let N : IsNode l = bare_node p l O.2 ((tree_stood (path ++ p) ts (i ∷ loose) l O.0).other (λ z. bare (ap (high_of f) (ec ∙ O.1.child) ∙ z))) in
    let more : 1 < length p = not_one (em ∙ O.1.long) O.1.some n1 in
    record {
      lay = prefix n o (drop 1 p) l;
      work = make_prefix (path ++ take 1 p) ts loose n o (drop 1 p) l
          (work_path l (path_parts path p 1) (work_write O.0 (omega arith) (omega arith) D.only (omega arith) (omega arith))) (D.at p (slot_of l) O.1 more) (node_below (drop 1 p) l N);
      slot = refl;
      few = omega arith;
      run = refl;
      string = refl;
      tip = refl;
      changed = changed_only _ D.only (λ a x u. omega (arith, cover_body a n prefix_kind o (omega arith) (omega arith), sum_cons (cover a) i (row_items (bodies_of l) [])));
    }
