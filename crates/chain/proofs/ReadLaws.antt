-- A chain is read, body by body from its top. Assumes nothing.
use Prim.Native.Nat.{ℕ, ◌+◌, ◌-◌, ◌<◌, ◌≤◌}
use mathlib.Core.Path.{◌≡◌, refl, sym, ap, subst, ◌∙◌}
use mathlib.Core.List.{List, [], ◌∷◌, ◌++◌, append_assoc, append-nil}
use native.Mathlib.Omega.{arith}
use native.Mathlib.Decide.{dec_lt}
use native.Mathlib.Nat.{min-le_left}
use lib.ListN.{length, get_or, set, take, drop, length-append, length-drop, length-take, get_or-append}
use lib.Seq.{length-take-le, get_or-take, get_or-drop, get_or-append-add, ext_get_or}
use Rattle.layout.specs.Place.{entry_at, prefix_bytes, prefix_length, prefix_child}
use Rattle.layout.specs.Kind.{prefix_kind}
use Rattle.std.proofs.Common.{Option, Some, None}
use Rattle.std.specs.Option.{is_some}
use mathlib.Core.Bool.{Bool, false}
use Rattle.layout.specs.Number.{le}
use Rattle.layout.specs.Entry.{place_of, high_of}
use Rattle.model.specs.Edition.{Edition}
use Rattle.model.specs.Item.{Item, body}
use Rattle.model.specs.Body.{Text, PrefixAt}
use Rattle.model.specs.Frame.{Lay, slot_of, Below, View}
use Rattle.model.specs.Frame.Lay.{leaf, prefix, node}
use Rattle.moves.specs.Pasted.{Pasted}
use Rattle.room.proofs.HeapLaws.{lies}
use Rattle.between.specs.Hole.{Step}
use Rattle.between.specs.Work.{Work}
use Rattle.between.proofs.WorkLaws.{entries_first, first_owns, work_path, open_leaf, open_prefix, open_node}
use Rattle.chain.specs.Row.{Entered, PrefixThere, row_items, Named, unwound, bodies_of, bytes_of, tip_of, run_long, run_many, Opened, RowRead, Reads}
use Rattle.chain.proofs.TakeLaws.{named_push}

-- ---- strings

-- bytes of a frame follow n others
pub text_step : (b b' f p : List ℕ) (n m at : ℕ) → Pasted b b' n (length (take m (drop at f))) (take m (drop at f)) → Text f at p → m ≡ length p → n + m ≤ length b → at + m ≤ length f → take (n + m) b' ≡ take n b ++ p
text_step b b' f p n m at G T em room fits =
    let lp : length (take m (drop at f)) ≡ m = length-take-le m (drop at f) (omega (arith, length-drop at f)) in
    let size = G.only.size in
    let l1 : length (take (n + m) b') ≡ n + m = length-take-le (n + m) b' (omega arith) in
    let l2 : length (take n b) ≡ n = length-take-le n b (omega arith) in
    ext_get_or 0 (take (n + m) b') (take n b ++ p) (omega (arith, length-append (take n b) p))
    (λ i h. get_or-take (n + m) b' i 0 (omega arith) ∙ elim (dec_lt i n) [
      | yes l ↦ G.only.below i l ∙ sym (get_or-take n b i 0 l) ∙ sym (get_or-append (take n b) p 0 i (omega arith))
      | no l ↦
          let e : i ≡ length (take n b) + (i - n) = omega arith in
          G.text i (i - n) (omega arith) (omega arith) ∙ get_or-take m (drop at f) (i - n) 0 (omega arith) ∙ get_or-drop at f (i - n) 0 ∙ T (i - n) (omega arith)
          ∙ sym (get_or-append-add (take n b) p (i - n) 0) ∙ ap (λ j. get_or (take n b ++ p) j 0) (sym e)
    ])

-- ---- the slot of a tree

pub record Stood (f : List ℕ) (t : Lay) : Type 0 where
  pub low : 1 ≤ slot_of t
  pub entry : entry_at (slot_of t) + 4 ≤ length f
  pub small : slot_of t < 65536
  pub live : (1 ≤ high_of f (slot_of t)) × (high_of f (slot_of t) ≤ 8)
  pub other : (high_of f (slot_of t) ≡ 2 → ⊥) → run_many t ≡ 0
  pub same : high_of f (slot_of t) ≡ 2 → 1 ≤ run_many t

module _ {E : Edition} {f : List ℕ} {h : View} {xs : List Step} {s : ℕ} where
  stood : {k : ℕ} (t : Lay) (o : ℕ) (rest : List Item) (us : List (List ℕ × Lay)) → 1 ≤ k → k ≤ 8 → Work E f h xs s us (body (slot_of t) k o ∷ rest) → (k ≡ 2 → 1 ≤ run_many t) → ((k ≡ 2 → ⊥) → run_many t ≡ 0) → Stood f t
  stood {k} t o rest us k1 k8 W a b =
      let L = lies (slot_of t) k o _ W.heap (first_owns W) k1 k8 in
      let H = W.heap.header in
      let c = H.slot_cap in
      let bi = H.bump_in in
      let e = (entries_first f (slot_of t) k o rest W.entries).0.kind_is in
      record { low = L.low; entry = omega (arith, L.table, H.size); small = omega (arith, L.table); live = (omega arith, omega arith); other = λ n. b (λ z. n (e ∙ z)); same = λ z. a (sym e ∙ z) }

  pub tree_stood : (path : List ℕ) (ts : List (List ℕ × Lay)) (loose : List Item) (t : Lay) → Work E f h xs s ((path, t) ∷ ts) loose → Stood f t
  tree_stood path ts loose (leaf n o e k v) W = stood (leaf n o e k v) o _ ts (omega arith) (omega arith) (open_leaf path ts loose n o e k v W).0 (λ z. absurd (omega arith)) (λ z. refl)
  tree_stood path ts loose (prefix n o p t) W = stood (prefix n o p t) o _ ((path ++ p, t) ∷ ts) (omega arith) (omega arith) (open_prefix path ts loose n o p t W).0 (λ z. omega arith) (λ z. absurd (z refl))
  tree_stood path ts loose (node n o kind ks) W =
      let O = open_node path ts loose n o kind ks W in
      let r = O.1.inner.range in
      stood (node n o kind ks) o _ _ (omega arith) (omega arith) O.0 (λ z. absurd (omega arith)) (λ z. refl)

-- its entry, by any name of the slot
pub entered_at : {f : List ℕ} {t : Lay} {s : ℕ} → Stood f t → slot_of t ≡ s → Entered f s
entered_at {f} S e = subst (Entered f) e (record { some = S.low; entry = S.entry; least = S.live.0; most = S.live.1 })

-- where no Prefix was found, none is
pub not_there : (f : List ℕ) (s : ℕ) (r : Option ℕ) {b : Bool} → PrefixThere f s r → b ≡ is_some r → b ≡ false → high_of f s ≡ 2 → ⊥
not_there f s None P e z = P
not_there f s (Some o) P e z = λ q. cc

-- ---- the loop

pub record Pre (t : Lay) : Type 0 where
  pub o : ℕ
  pub u : List ℕ
  pub l : Lay
  pub is : t ≡ prefix (slot_of t) o u l

pub pre_of : (t : Lay) → 1 ≤ run_many t → Pre t
pre_of (leaf n o e k v) g = absurd (omega arith)
pre_of (prefix n o u l) g = record { o = o; u = u; l = l; is = refl }
pre_of (node n o kind ks) g = absurd (omega arith)

opened_start : {E : Edition} {f : List ℕ} {h : View} {xs : List Step} {s : ℕ} {path : List ℕ} {t : Lay} {ts : List (List ℕ × Lay)} {rs : List (ℕ × ℕ)} {loose : List Item} {row : List ℕ} (bytes : List ℕ) (long : ℕ)
    → Work E f h xs s ((path, t) ∷ ts) (row_items rs loose) → Named row rs → Opened E f h xs s path t ts rs loose row bytes bytes long (length rs) long (slot_of t)
opened_start {path = path} {t = t} bytes long W N =
    record {
      more = [];
      p = [];
      tip = t;
      work = work_path t (sym (append-nil path)) W;
      named = N;
      many = omega arith;
      text = sym (append-nil (take long bytes));
      ends = omega arith;
      slot = refl;
      longs = omega arith;
      bodies = omega arith;
      full = λ z. refl;
      chained = refl;
      run = refl;
      string = refl;
      tips = refl;
    }

module _ {E : Edition} {f : List ℕ} {h : View} {xs : List Step} {s : ℕ} {path : List ℕ} {t : Lay} {ts : List (List ℕ × Lay)} {rs : List (ℕ × ℕ)} {loose : List Item} {row bytes bytes' : List ℕ} {long count n r : ℕ}
    (R : Opened E f h xs s path t ts rs loose row bytes bytes' long count n r) (kind : high_of f r ≡ 2) where
  stands : Stood f R.tip
  stands = tree_stood (path ++ R.p) ts (row_items R.more (row_items rs loose)) R.tip R.work

  P : Pre R.tip
  P = pre_of R.tip (stands.same (ap (high_of f) R.slot ∙ kind))

  tip_is : R.tip ≡ prefix r P.o P.u P.l
  tip_is = P.is ∙ ap (λ y. prefix y P.o P.u P.l) R.slot

  opens : Work E f h xs s (((path ++ R.p) ++ P.u, P.l) ∷ ts) (body r prefix_kind P.o ∷ row_items R.more (row_items rs loose)) × PrefixAt f P.o P.u (slot_of P.l) × Below P.u P.l
  opens = open_prefix (path ++ R.p) ts (row_items R.more (row_items rs loose)) r P.o P.u P.l (subst (λ y. Work E f h xs s ((path ++ R.p, y) ∷ ts) (row_items R.more (row_items rs loose))) tip_is R.work)

  place_is : place_of f r ≡ P.o
  place_is = (entries_first f r prefix_kind P.o (row_items R.more (row_items rs loose)) opens.0.entries).0.place_is

  pub opened_room : place_of f r + 128 ≤ length f
  opened_room = omega (arith, place_is, opens.1.room)

  pub opened_long : (1 ≤ le 2 f (place_of f r + prefix_length)) × (le 2 f (place_of f r + prefix_length) ≤ 112)
  opened_long = let e = place_is in let g = opens.1.long in let a = opens.1.some in let b = opens.1.most in rw e (omega arith, omega arith)

  pub opened_bytes : n + le 2 f (place_of f r + prefix_length) ≤ long + run_long t
  opened_bytes = let e = place_is in rw e (omega (arith, opens.1.long, R.ends, R.longs, ap run_long tip_is))

  pub opened_row : count < length rs + run_many t
  opened_row = omega (arith, R.many, R.bodies, ap run_many tip_is)

  below_full : (u : List ℕ) (l : Lay) → Below u l → 1 ≤ run_many l → length u ≡ 112
  below_full u (leaf a b c k v) B g = absurd B
  below_full u (prefix a b q l) B g = B
  below_full u (node a b kind ks) B g = absurd (omega arith)

  pub opened_step : {o m c : ℕ} {b'' : List ℕ} → o ≡ place_of f r → m ≡ le 2 f (o + prefix_length) → c ≡ le 4 f (o + prefix_child)
      → Pasted bytes' b'' n (length (take (o + prefix_bytes + m - (o + prefix_bytes)) (drop (o + prefix_bytes) f))) (take (o + prefix_bytes + m - (o + prefix_bytes)) (drop (o + prefix_bytes) f))
      → n + m ≤ length bytes' → count < length row → Opened E f h xs s path t ts rs loose (set row count r) bytes b'' long (count + 1) (n + m) c
  opened_step {o} {m} {c} {b''} eo em ec G fits in_row =
      let u = P.u in
      let l = P.l in
      let ep : o ≡ P.o = eo ∙ place_is in
      let A = opens.1 in
      let some = A.some in
      let most = A.most in
      let lu : m ≡ length u = em ∙ ap (λ y. le 2 f (y + prefix_length)) ep ∙ A.long in
      let lc : c ≡ slot_of l = ec ∙ ap (λ y. le 4 f (y + prefix_child)) ep ∙ A.child in
      let d : o + prefix_bytes + m - (o + prefix_bytes) ≡ m = omega arith in
      let G' : Pasted bytes' b'' n (length (take m (drop (o + prefix_bytes) f))) (take m (drop (o + prefix_bytes) f)) = subst (λ y. Pasted bytes' b'' n (length (take y (drop (o + prefix_bytes) f))) (take y (drop (o + prefix_bytes) f))) d G in
      let T : Text f (o + prefix_bytes) u = subst (λ y. Text f (y + prefix_bytes) u) (sym ep) A.text in
      let many = R.many in
      let has : 1 ≤ run_many R.tip = omega (arith, ap run_many tip_is) in
      record {
        more = (r, P.o) ∷ R.more;
        p = R.p ++ u;
        tip = l;
        work = work_path l (append_assoc path R.p u) opens.0;
        named = named_push row (R.more ++ rs) count r P.o (omega (arith, length-append R.more rs)) in_row R.named;
        many = omega arith;
        text = text_step bytes' b'' f u n m (o + prefix_bytes) G' T lu fits (omega (arith, A.room)) ∙ ap (λ y. y ++ u) R.text ∙ append_assoc (take long bytes) R.p u;
        ends = omega (arith, R.ends, length-append R.p u);
        slot = sym lc;
        longs = omega (arith, R.longs, ap run_long tip_is, length-append R.p u);
        bodies = omega (arith, R.bodies, ap run_many tip_is);
        full = λ z. omega (arith, R.full has, below_full u l opens.2 z, length-append R.p u);
        chained = omega (arith, R.full has, length-append R.p u);
        run = ap (λ y. unwound R.more (bodies_of y)) (sym tip_is) ∙ R.run;
        string = append_assoc R.p u (bytes_of l) ∙ ap (λ y. R.p ++ bytes_of y) (sym tip_is) ∙ R.string;
        tips = ap tip_of (sym tip_is) ∙ R.tips;
      }

pub read_start : (f row bytes : List ℕ) (slot have long : ℕ) → RowRead f row row bytes bytes slot have long have long slot
read_start f row bytes slot have long E h xs s path t ts rs loose W N e es =
    subst (λ y. Opened E f h xs s path t ts rs loose row bytes bytes long have long y) es (subst (λ y. Opened E f h xs s path t ts rs loose row bytes bytes long y long (slot_of t)) e (opened_start bytes long W N))

module _ {f row row' bytes bytes' : List ℕ} {slot have long count n r : ℕ} (Z : RowRead f row row' bytes bytes' slot have long count n r) where
  module _ (W : Reads f row bytes slot have long) where
    now_at : Opened W.edition f W.view W.steps W.top W.path W.tree W.trees W.held W.loose row' bytes bytes' long count n r
    now_at = Z W.edition W.view W.steps W.top W.path W.tree W.trees W.held W.loose W.work W.named W.many W.slot_is

    pub read_slot : Entered f r
    read_slot = entered_at (tree_stood (W.path ++ now_at.p) W.trees (row_items now_at.more (row_items W.held W.loose)) now_at.tip now_at.work) now_at.slot

    module _ (kind : high_of f r ≡ 2) where
      pub read_room : place_of f r + 128 ≤ length f
      read_room = opened_room now_at kind

      read_long : (1 ≤ le 2 f (place_of f r + prefix_length)) × (le 2 f (place_of f r + prefix_length) ≤ 112)
      read_long = opened_long now_at kind

      pub read_fits : (n + le 2 f (place_of f r + prefix_length) ≤ length bytes) × (count < length row)
      read_fits = (omega (arith, opened_bytes now_at kind, W.bytes_fit), omega (arith, opened_row now_at kind, W.many, W.row_fits))

      pub read_piece : {o m : ℕ} → o ≡ place_of f r → m ≡ le 2 f (o + prefix_length) → (o + 128 ≤ length f) × (1 ≤ m) × (m ≤ 112) × (n + m ≤ length bytes) × (count < length row)
      read_piece {o} {m} eo em =
          let e : m ≡ le 2 f (place_of f r + prefix_length) = em ∙ ap (λ y. le 2 f (y + prefix_length)) eo in
          (omega (arith, read_room), omega (arith, read_long.0), omega (arith, read_long.1), omega (arith, read_fits.0), read_fits.1)

module _ (row : List ℕ) {f row' bytes bytes' : List ℕ} {slot have long count n r : ℕ} (Z : RowRead f row row' bytes bytes' slot have long count n r) where
  pub read_step : high_of f r ≡ 2 → {o m c : ℕ} {b'' : List ℕ} → o ≡ place_of f r → m ≡ le 2 f (o + prefix_length) → c ≡ le 4 f (o + prefix_child)
      → Pasted bytes' b'' n (length (take (o + prefix_bytes + m - (o + prefix_bytes)) (drop (o + prefix_bytes) f))) (take (o + prefix_bytes + m - (o + prefix_bytes)) (drop (o + prefix_bytes) f))
      → n + m ≤ length bytes' → count < length row' → RowRead f row (set row' count r) bytes b'' slot have long (count + 1) (n + m) c
  read_step kind eo em ec G fits in_row E h xs s path t ts rs loose W N e es = opened_step (Z E h xs s path t ts rs loose W N e es) kind eo em ec G fits in_row

-- what `paste` asks
pub part_fits : (f : List ℕ) (o m n b b0 : ℕ) → n + m ≤ b0 → b ≡ b0 → n + length (take (o + prefix_bytes + m - (o + prefix_bytes)) (drop (o + prefix_bytes) f)) ≤ b
part_fits f o m n b b0 l e =
    let d : o + prefix_bytes + m - (o + prefix_bytes) ≡ m = omega arith in
    rw d (omega (arith, length-take m (drop (o + prefix_bytes) f), min-le_left m (length (drop (o + prefix_bytes) f))))
