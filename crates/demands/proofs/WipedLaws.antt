-- What was erased or replaced is gone, and the new rule is the old one with the zeros. Assumes nothing.
use Prim.Native.Nat.{ℕ, ◌+◌, ◌-◌, ◌<◌, ◌≤◌}
use mathlib.Core.Path.{◌≡◌, refl, sym, ap, ◌∙◌}
use mathlib.Core.List.{List, []}
use mathlib.Core.Bool.{true}
use mathlib.Core.Option.{Option, none, some}
use native.Mathlib.Omega.{arith}
use native.Mathlib.Decide.{dec_le, dec_lt}
use lib.ListN.{length, get_or, drop, take, length-drop}
use lib.Seq.{length-take-le}
use lib.Dec.{eqb}
use borrow.Author.Tests.{eq-eqb, ne_eqb}
use Rattle.layout.specs.Number.{le}
use Rattle.layout.specs.Place.{at_d, at_b, data_start}
use Rattle.model.specs.Strings.{pick, same, shared}
use Rattle.model.specs.Edition.{Edition, edition1, before1, Lawful, Value, text_of}
use Rattle.model.specs.Tree.{Art, Kids, up8, extent_of, find_tree, find_kids, put_tree, put_kids, has}
use Rattle.model.specs.Tree.Art.{leaf, prefix, node}
use Rattle.model.specs.Tree.Kids.{nil, kid}
use Rattle.model.specs.State.{State, Write, find_in, put_in, put_change}
use Rattle.model.specs.Item.{Item, cover, sum}
use Rattle.model.specs.Image.{image}
use Rattle.model.specs.Frame.{Root, root_art, root_items, freed, Clean, Stands}
use Rattle.model.specs.Touch.{Part, find_at, extent_at}
use Rattle.model.specs.Visits.{visits_in}
use Rattle.model.specs.Promise.{Found, not_found, found_of, LookUpPromise, WritePromise, ErasePromise}
use Rattle.model.proofs.StringLaws.{clash, bool_cases, eqb_cases, same_true}
use Rattle.model.proofs.ItemLaws.{in_yes, sum_app}
use Rattle.model.proofs.StateLaws.{tree_some}
use Rattle.model.proofs.StandsGood.{stands_good, stands_heads}
use Rattle.model.proofs.FormatLaws.{image_formatted}
use Rattle.model.proofs.AlikeLaws.{put_same_cap, erase_same_cap}
use Rattle.model.proofs.CleanLaws.{stands_clean, freed_bare, stands_before, stands_now}
use Rattle.model.proofs.ExtentLaws.{root_past, found_low}
use Rattle.model.proofs.SettledLaws.{dead_zero}
use Rattle.demands.specs.Wiped.{ZeroWhereFree, NewRule, Gone, Wiped}
use Rattle.demands.proofs.DoneLaws.{root_within}

-- ---- the value that is replaced dies

module _ (E : Edition) (k : List ℕ) (v v' : Value) (other : length (text_of v) ≡ length (text_of v') → ⊥) where
  mutual
    tree_dead : (a : Art) (d : ℕ) → find_tree E a d k ≡ some v' → (put_tree E a d k v).dead ≡ extent_of k v'
    tree_dead (leaf k0 v0) d h = bool_cases (same k k0)
        (λ t.
        let q : some v0 ≡ some v' = rw t at h in
        let x : v0 ≡ v' = cc in
        let y = same_true k k0 t in
        rw (t, x, ← y, ne_eqb (length (text_of v)) (length (text_of v')) other) refl)
        (λ t. let q : none ≡ some v' = rw t at h in clash (cc))
    tree_dead (prefix p a) d h = bool_cases (eqb (shared p (drop d (E.walked k))) (length p))
        (λ t. rw t (tree_dead a (d + length p) (rw t at h)))
        (λ t. let q : none ≡ some v' = rw t at h in clash (cc))
    tree_dead (node kind ks) d h = let on = kids_dead ks d h in rw on.0 on.1

    kids_dead : (ks : Kids) (d : ℕ) → find_kids E ks d k ≡ some v' → (has (get_or (E.walked k) d 0) ks ≡ true) × ((put_kids E ks d k v).dead ≡ extent_of k v')
    kids_dead nil d h = clash (cc)
    kids_dead (kid c j a ks) d h = let b = get_or (E.walked k) d 0 in eqb_cases c b
        (λ t q. (rw (eq-eqb b c (sym q)) refl, rw t (tree_dead a (d + 1) (rw t at h))))
        (λ t q. let on = kids_dead ks d (rw t at h) in (rw (ne_eqb b c (λ z. q (sym z)), on.0) refl, rw t on.1))

  change_dead : (t : Option Art) → find_in E t k ≡ some v' → (put_in E t k v).dead ≡ extent_of k v'
  change_dead none h = clash (cc)
  change_dead (some a) h = tree_dead a 0 h

-- ---- what look-up found

found_is : (E : Edition) (k : List ℕ) (r : Root) (m : ℕ) (g : Found) → g.number ≡ 0 → g ≡ pick (eqb (E.key_fault k) 0) (found_of (find_at E r k) m) (not_found (E.key_fault k) 0) → find_at E r k ≡ some (record { at = g.place; long = g.long; stamp = g.stamp })
found_is E k r m g z e = eqb_cases (E.key_fault k) 0
    (λ t q. go (find_at E r k) (let y : g ≡ found_of (find_at E r k) m = rw t at e in y))
    (λ t q. let y : g ≡ not_found (E.key_fault k) 0 = rw t at e in absurd (q (sym (ap (λ (x : Found). x.number) y) ∙ z)))
  where
    go : (c : Option Part) → g ≡ found_of c m → c ≡ some (record { at = g.place; long = g.long; stamp = g.stamp })
    go none y = absurd (omega (arith, ap (λ (x : Found). x.number) y, z))
    go (some c) y = rw y refl

module _ {E : Edition} (L : Lawful E) (wiped : E.wiped ≡ true) {f k : List ℕ} {g : Found} (look : LookUpPromise E f k g) (there : g.number ≡ 0) {s : State} (w : Stands E f s) where
  found : find_at E w.root k ≡ some (record { at = g.place; long = g.long; stamp = g.stamp })
  found = found_is E k w.root (visits_in E (root_art w.root) k) g there (look.found s w)

  abbrev was : List Item
  was = extent_at (length k) (find_at E w.root k)

  -- a byte of the extent
  module _ (a : ℕ) (from : g.place ≤ a + length k) (to : a + length k < g.place + up8 (length k + g.long)) where
    covers : 1 ≤ sum (cover a) was
    unfolding sum cover
    covers = let p = root_past E k (record { at = g.place; long = g.long; stamp = g.stamp }) w.root found in rw found (omega (arith, in_yes (g.place - length k) (up8 (length k + g.long)) a (omega arith) (omega arith)))

    in_data : data_start w.nums.N ≤ a
    in_data = elim (dec_lt a (data_start w.nums.N)) [ yes q ↦ absurd (omega (arith, covers, found_low w k a q)) | no q ↦ omega arith ]

  passes : E.key_fault k ≡ 0
  passes = eqb_cases (E.key_fault k) 0 (λ t q. q) (λ t q. absurd (q (let y : g ≡ not_found (E.key_fault k) 0 = rw t at (look.found s w) in sym (ap (λ (x : Found). x.number) y) ∙ there)))

  abbrev held : Value
  held = record { bytes = take g.long (drop g.place f); stamp = g.stamp }

  value : find_in E s.tree k ≡ some held
  value = look.value s w passes ∙ rw (eq-eqb g.number 0 there) refl

  -- ---- after an erase

  -- the only record: the frame is as format leaves it, zero from the first slot's entry on
  only_gone : {f' : List ℕ} → f' ≡ image E s.F s.N [] → Gone f' k g
  only_gone e a from to =
      let H = stands_heads E f s w in
      let b = H.bump_in in
      let c = H.slot_cap in
      let n : s.N ≡ w.nums.N = ap (λ (z : State). z.N) w.state in
      rw e ((image_formatted E s.F s.N 0 L.fields.number H.limits H.slot_cap (omega arith)).rest a (omega (arith, in_data a from to)))

  some_record : 1 ≤ s.R
  some_record = go s.tree refl
    where
      go : (t : Option Art) → s.tree ≡ t → 1 ≤ s.R
      go none q = let z : none ≡ some held = rw q at value in clash (cc)
      go (some x) q = tree_some L s x (stands_good E f s w) q

  erase_gone : {n : ℕ} {f' : List ℕ} → ErasePromise E f k n f' → n ≡ 0 → Gone f' k g
  erase_gone {n} {f'} p e = elim (dec_le 2 s.R) [
    | yes q ↦ (λ a from to. let R = p.after s w in dead_zero R.0 wiped (R.1 e q) a (omega (arith, in_data a from to, ap data_start (erase_same_cap k w R.0))) (covers a from to))
    | no q ↦ only_gone (p.only s w e (omega (arith, some_record)))
  ]

  -- ---- after a replacement by a value of another length

  value_long : length (take g.long (drop g.place f)) ≡ g.long
  value_long = let q = root_within E f k (record { at = g.place; long = g.long; stamp = g.stamp }) w.root w.root_at found in length-take-le g.long (drop g.place f) (omega (arith, length-drop g.place f))

  replace_gone : (b : Write) {v : Value} {n : ℕ} {f' : List ℕ} → WritePromise E b f k v n f' → n ≡ 9 → (length (text_of v) ≡ g.long → ⊥) → Gone f' k g
  replace_gone b {v} {n} {f'} p e other a from to =
      let R = p.after s w in
      let O = R.1 (rw e refl) in
      let dead = change_dead E k v held (λ z. other (z ∙ value_long)) s.tree value in
      let some : (put_change E s k v).dead ≡ 0 → ⊥ = λ z. omega (arith, dead, ap (λ m. up8 (length k + m)) value_long) in
      dead_zero R.0 wiped O a (omega (arith, in_data a from to, ap data_start (put_same_cap b k v w R.0))) (rw (ne_eqb (put_change E s k v).dead 0 some) (covers a from to))

pub wiped_all : {E : Edition} → Lawful E → E.wiped ≡ true → Wiped E
wiped_all {E} L wiped = record {
  erase = λ f k g n f' look there p e. let G = p.told.good (λ z. omega arith) (λ z. omega arith) in erase_gone L wiped look there G.1 p e;
  replace = λ b f k v g n f' look there p e other. let G = p.told.good (λ z. omega arith) (λ z. omega arith) in replace_gone L wiped look there G.1 b p e other;
}

-- ---- the new rule and the old

zero_free : {f : List ℕ} {s : State} (w : Stands edition1 f s) → ZeroWhereFree f w.root w.lists
zero_free w =
    let C = stands_clean w refl in
    let H = w.heap.header in
    record {
      bodies = λ a h. let z = freed_bare w a h in C.zero a (omega (arith, z.0, H.data_at)) z.1;
      extents = λ a l u z. C.zero a l (omega (arith, sum_app (cover a) (root_items w.root) (freed 1 w.lists)));
      from_b = λ a l. C.zero a (omega (arith, H.data_at, H.bump_at, H.bump_in)) (omega (arith, w.heap.sound.high a (omega (arith, H.bump_at)), sum_app (cover a) (root_items w.root) (freed 1 w.lists)));
    }

clean_back : {f : List ℕ} {s : State} (w : Stands before1 f s) → ZeroWhereFree f w.root w.lists → Clean f (le 4 f at_d) (root_items w.root)
clean_back {f} w Z = record {
  zero = λ a l c. elim (dec_le 1 (sum (cover a) (freed 1 w.lists))) [
    | yes q ↦ Z.bodies a q
    | no q ↦ elim (dec_lt a (le 4 f at_b)) [
      | yes u ↦ Z.extents a l u (omega (arith, sum_app (cover a) (root_items w.root) (freed 1 w.lists)))
      | no u ↦ Z.from_b a (omega arith)
    ]
  ];
}

pub new_rule : NewRule
new_rule = record { forth = λ f s w. (stands_before w, zero_free w); back = λ f s w Z. stands_now w (clean_back w Z) }
