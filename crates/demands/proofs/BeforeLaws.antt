-- Packing by the rule from before, held to the demands: the image is that of the records, and these are as legal by the one rule as by the other. Assumes nothing.
use Prim.Native.Nat.{ℕ, suc}
use native.Mathlib.Omega.{arith}
use mathlib.Core.Path.{◌≡◌, refl, sym, ◌∙◌}
use mathlib.Core.List.{List, [], ◌∷◌, ◌++◌}
use mathlib.Core.Option.{Option, none, some}
use mathlib.Core.Logic.{inl, inr}
use lib.ListN.{length}
use Rattle.model.specs.Edition.{Value, LegalValue, edition1, before1}
use Rattle.model.specs.Tree.{Art, Kids}
use Rattle.model.specs.Tree.Art.{leaf, prefix, node}
use Rattle.model.specs.Tree.Kids.{nil, kid}
use Rattle.model.specs.Records.{Record}
use Rattle.model.specs.Image.{packed_tree, tree_of, image}
use Rattle.model.specs.Frame.{Stands}
use Rattle.model.specs.Promise.{PackBeforePromise}
use Rattle.model.proofs.StringLaws.{eqb_cases}
use Rattle.model.proofs.Edition1.{lawful1}
use Rattle.model.proofs.Well.{Well, WellKids}
use Rattle.model.proofs.GoodState.{TreeOk}
use Rattle.model.proofs.CleanLaws.{lawful_before, stands_before}
use Rattle.model.proofs.PackedLaws.{LegalRecords, packed_words, tree_packed}
use Rattle.model.proofs.PackedWords.{words_one}
use Rattle.model.proofs.StandsGood.{stands_good, stands_heads}
use Rattle.model.proofs.StateLaws.{pack_good}
use Rattle.model.proofs.ImageLaws.{ImageFits, image_state}
use Rattle.model.proofs.PackStands.{image_of_stands, tree_of_records}
use Rattle.demands.specs.Words.{output_length, Holds, slots_of}
use Rattle.demands.specs.Demands.{Packed}
use Rattle.demands.specs.Before.{PackingBefore}
use Rattle.demands.proofs.FirstLaws.{frame_first}
use Rattle.demands.proofs.Refusals.{unchanging}
use Rattle.demands.proofs.Sets.{ascends, legals}
use Rattle.demands.proofs.Theorems.{faults1}

value_now : {v : Value} → LegalValue before1 v → LegalValue edition1 v
value_now h = record { passes = h.passes; bytes = h.bytes; stamp = h.stamp }

legal_now : (rs : List Record) → LegalRecords before1 rs → LegalRecords edition1 rs
legal_now [] h = tt
legal_now (r ∷ rs) h = (record { passes = h.0.passes; bytes = h.0.bytes }, value_now h.1, legal_now rs h.2)

mutual
  well_now : (a : Art) (path : List ℕ) → Well before1 a path → Well edition1 a path
  well_now (leaf k v) path h =
      let L = h.starts in
      record { starts = record { legal = record { passes = L.legal.passes; bytes = L.legal.bytes }; rest = L.rest; word = L.word }; fits = value_now h.fits }
  well_now (prefix p a) path h = (h.0, well_now a (path ++ p) h.1)
  well_now (node kind ks) path h = (h.0, kids_now ks path 0 h.1)

  kids_now : (ks : Kids) (path : List ℕ) (lo : ℕ) → WellKids before1 ks path lo → WellKids edition1 ks path lo
  kids_now nil path lo h = tt
  kids_now (kid c j a ks) path lo h = (h.0, h.1, well_now a (path ++ c ∷ []) h.2, kids_now ks path (suc c) h.3)

tree_now : (t : Option Art) → TreeOk before1 t → TreeOk edition1 t
tree_now none h = tt
tree_now (some a) h = well_now a [] h

packs_before : (f o : List ℕ) (n : ℕ) (o' : List ℕ) (rs : List Record) → PackBeforePromise f o n o' → Holds before1 f rs → length o ≡ length f → Packed edition1 f rs n o'
packs_before f o n o' rs p h l =
    let s = h.state in
    let q = p.packed0 s h.stands l in
    let H = stands_heads before1 f s h.stands in
    let bump = H.bump_in in
    let G = stands_good before1 f s h.stands in
    let P = (pack_good lawful_before s G).0 in
    let up = ascends lawful_before faults1 f rs h in
    let legal = legal_now rs (legals lawful_before faults1 f rs h) in
    let u : tree_of edition1 rs ≡ packed_tree s.tree = rw (← h.set) (tree_packed lawful1 s.tree (tree_now s.tree G.well)) in
    let F : ImageFits s.F s.N (tree_of edition1 rs)
    = rw u (record { limits = H.limits; cap = H.slot_cap; room = omega arith; slots_fit = P.fits_u; bytes_fit = P.fits_b }) in
    let written : o' ≡ image edition1 s.F s.N rs = q.1 ∙ rw h.set in
    let w : Stands edition1 o' (image_state s.F s.N (tree_of edition1 rs)) = rw written (image_of_stands lawful1 s.F s.N rs up legal F) in
    let K = stands_heads edition1 o' (image_state s.F s.N (tree_of edition1 rs)) w in
    let image_here : o' ≡ image edition1 (length f) (slots_of f) rs = written ∙ rw (← H.size, ← H.slots_at) in
    record {
      done0 = q.0;
      written = image_here;
      words = λ x i. image_here ∙ rw (words_one edition1 rs (tree_of edition1 rs) x (packed_words lawful1 rs up legal) i);
      back = record { state = image_state s.F s.N (tree_of edition1 rs); stands = w; set = tree_of_records lawful1 rs up legal };
      alike = (K.size ∙ sym H.size, K.slots_at ∙ sym H.slots_at);
    }

pub packing_before : PackingBefore
packing_before = record {
  refusals = λ f o n o' p. (
    frame_first before1 f (output_length f o ∷ []) (0 ∷ []) n refl refl p.told
        (λ g. eqb_cases (length o) (length f)
        (λ t q. inr (λ x. x q, inl (p.packed0 g.0 g.1 q).0))
        (λ t q. inl (q, p.output7 g q))),
    λ r. p.kept (unchanging n r),
  );
  packs = packs_before;
  both = λ f rs h. record { state = h.state; stands = stands_before h.stands; set = h.set };
}
