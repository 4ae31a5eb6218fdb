-- A row of bodies becomes a chain, piece by piece from the last. Assumes nothing.
use Prim.Native.Nat.{ℕ, ◌+◌, ◌-◌, ◌*◌, ◌<◌, ◌≤◌}
use mathlib.Core.Path.{◌≡◌, refl, sym, ap, subst, ◌∙◌}
use mathlib.Core.List.{List, [], ◌∷◌, ◌++◌, append_assoc, append-nil}
use mathlib.Core.Bool.{true}
use native.Mathlib.Omega.{arith}
use lib.ListN.{length, get_or, take, drop, length-drop, length-append, take-append-drop}
use lib.Seq.{take-length, drop-length, take-add, drop-drop, length-take-le, drop-append_seam}
use borrow.Author.Tests.{eq-eqb}
use Rattle.layout.specs.Place.{entry_at}
use Rattle.layout.specs.Kind.{prefix_kind}
use Rattle.layout.specs.Entry.{place_of}
use Rattle.model.specs.Strings.{shared}
use Rattle.model.specs.Edition.{Edition}
use Rattle.model.specs.Tree.{chain, as_prefix, is_inner}
use Rattle.model.specs.Item.{Item, body, cover, leafy, sum}
use Rattle.model.specs.Body.{PrefixAt}
use Rattle.model.specs.Frame.{Lay, Below, atop, art, items, View}
use Rattle.model.specs.Frame.Lay.{leaf, prefix, node}
use Rattle.model.specs.Mark.{Mark, marks, count}
use Rattle.model.specs.Touch.{find_lay}
use Rattle.model.proofs.StringLaws.{shared_whole}
use Rattle.model.proofs.ItemLaws.{sum_cons, in_over}
use Rattle.model.proofs.MarkLaws.{prefix_marks}
use Rattle.model.proofs.ChainLaws.{as_some, atop_as}
use Rattle.room.proofs.HeapLaws.{lies, cover_body}
use Rattle.between.specs.Hole.{Step}
use Rattle.between.specs.Work.{Work}
use Rattle.between.specs.Since.{written, Since, Bodies}
use Rattle.between.proofs.TreeLaws.{sum_none, prefix_sum}
use Rattle.between.proofs.ChangeLaws.{changed_none, changed_then, changed_only}
use Rattle.between.proofs.WorkLaws.{work_path, work_write, make_prefix, entries_first, first_owns}
use Rattle.prefix_body.specs.Prefix.{PrefixWritten}
use Rattle.chain.specs.Row.{row_items, unwound, bodies_of, bytes_of, Named, Ready, Raised, RowWritten, Writes}

-- ---- strings

node_inner : (t : Lay) → ((q : List ℕ) → Below q t) → is_inner (art t) ≡ true
node_inner (leaf s o e k v) B = absurd (B [])
node_inner (prefix s o p l) B = absurd (omega (arith, B []))
node_inner (node s o kind ks) B = refl

-- the piece from `from` up to `to`, and what follows
part_on : (p : List ℕ) (from to : ℕ) → from ≤ to → take to p ≡ take from p ++ take (to - from) (drop from p)
part_on p from to l = let e : to ≡ from + (to - from) = omega arith in ap (λ n. take n p) e ∙ take-add from (to - from) p

part_rest : (p : List ℕ) (from to : ℕ) → from ≤ to → take (to - from) (drop from p) ++ drop to p ≡ drop from p
part_rest p from to l =
    let e : from + (to - from) ≡ to = omega arith in
    ap (λ n. take (to - from) (drop from p) ++ drop n p) (sym e) ∙ ap (λ x. take (to - from) (drop from p) ++ x) (sym (drop-drop (to - from) from p)) ∙ take-append-drop (to - from) (drop from p)

pub part_long : (p : List ℕ) (from to : ℕ) → from ≤ to → to ≤ length p → length (take (to - from) (drop from p)) ≡ to - from
part_long p from to l u = length-take-le (to - from) (drop from p) (omega (arith, length-drop from p))

-- a key that runs through a Prefix
pub through : (E : Edition) (k w r : List ℕ) (d s o : ℕ) (t : Lay) → drop d (E.walked k) ≡ w ++ r → find_lay E (prefix s o w t) d k ≡ find_lay E t (d + length w) k
through E k w r d s o t e = rw (eq-eqb (shared w (drop d (E.walked k))) (length w) (ap (shared w) e ∙ shared_whole w r)) refl

further : (x w u r : List ℕ) (d : ℕ) → drop d x ≡ (w ++ u) ++ r → drop (d + length w) x ≡ u ++ r
further x w u r d e = sym (drop-drop (length w) d x) ∙ ap (drop (length w)) (e ∙ append_assoc w u r) ∙ drop-append_seam w (u ++ r)

row_sum : (w : Item → ℕ) (x : ℕ × ℕ) (rs : List (ℕ × ℕ)) → sum w (row_items (x ∷ rs) []) ≡ w (body x.0 prefix_kind x.1) + sum w (row_items rs [])
row_sum w x rs = sum_cons w (body x.0 prefix_kind x.1) (row_items rs [])

-- ---- the start

pub raised_start : {E : Edition} {f : List ℕ} {h : View} {xs : List Step} {s : ℕ} {path p : List ℕ} {t : Lay} {ts : List (List ℕ × Lay)} {all : List (ℕ × ℕ)} {loose : List Item} {row : List ℕ} {c : ℕ}
    → Ready E f h xs s path p t ts all loose row c → Raised E f f h xs s path p t ts all loose row (chain (length p)) (length p) c
raised_start {E} {f} {h} {xs} {s} {path} {p} {t} {ts} {all} {loose} {row} {c} R =
    record {
      left = all;
      lay = t;
      named = R.named;
      many = R.many;
      work = work_path t (ap (λ x. path ++ x) (sym (take-length p))) R.work;
      slot = R.slot;
      slot_in = λ z. let e = R.slot in (omega arith, omega arith);
      hangs = λ q l. R.node q;
      art_is = rw (drop-length p) refl;
      run = refl;
      string = rw (drop-length p) refl;
      tip = refl;
      sums = λ w. omega arith;
      within = λ w. omega arith;
      stands = λ w. omega (arith, ap (λ x. count w (marks (path ++ x) t)) (take-length p));
      look = λ k d rest e. rw (drop-length p) (ap (λ n. find_lay E t n k) (omega arith));
      changed = changed_none f _;
    }

-- ---- one piece

-- the last body of a row
pub record Top (left : List (ℕ × ℕ)) (row : List ℕ) (i : ℕ) : Type 0 where
  pub x : ℕ × ℕ
  pub rs : List (ℕ × ℕ)
  pub is : left ≡ x ∷ rs
  pub many : length rs ≡ i
  pub slot : get_or row i 0 ≡ x.0
  pub named : Named row rs

pub top_of : (left : List (ℕ × ℕ)) (row : List ℕ) (i : ℕ) → Named row left → length left ≡ i + 1 → Top left row i
top_of [] row i N e = absurd (omega arith)
top_of (x ∷ rs) row i N e = let l : length rs ≡ i = omega arith in record { x = x; rs = rs; is = refl; many = l; slot = ap (λ n. get_or row n 0) (sym l) ∙ N.0; named = N.1 }

module _ {E : Edition} {f0 f : List ℕ} {h : View} {xs : List Step} {s : ℕ} {path p : List ℕ} {t : Lay} {ts : List (List ℕ × Lay)} {all : List (ℕ × ℕ)} {loose : List Item} {row : List ℕ} {j to r : ℕ} (R : Raised E f0 f h xs s path p t ts all loose row j to r) (i : ℕ) (ej : j ≡ i + 1) where
  top : Top R.left row i
  top = top_of R.left row i R.named (R.many ∙ ej)

  abbrev last : Item
  last = body top.x.0 prefix_kind top.x.1

  loosed : Work E f h xs s ((path ++ take to p, R.lay) ∷ ts) (last ∷ row_items top.rs loose)
  loosed = let e = top.is in rw e at R.work

  place_is : place_of f top.x.0 ≡ top.x.1
  place_is = (entries_first f top.x.0 prefix_kind top.x.1 (row_items top.rs loose) loosed.entries).0.place_is

  pub seat : (1 ≤ get_or row i 0) × (entry_at (get_or row i 0) + 4 ≤ length f) × (place_of f (get_or row i 0) + 128 ≤ length f) × (get_or row i 0 < 65536)
  seat =
      let H = loosed.heap.header in
      let c = H.slot_cap in
      let b = H.bump_in in
      let e = top.slot in
      let L = lies top.x.0 prefix_kind top.x.1 _ loosed.heap (first_owns loosed) (omega arith) (omega arith) in
      rw e (L.low, omega (arith, L.table, H.size), omega (arith, place_is, L.ends, H.size), omega (arith, L.table))

  module _ (from : ℕ) (short : from < to) (ends : to ≤ length p) (full : to < length p → to - from ≡ 112) where
    abbrev piece : List ℕ
    piece = take (to - from) (drop from p)

    pub raised_step : {g : List ℕ} → PrefixWritten f g (place_of f (get_or row i 0)) piece r → (t' : is_inner (art t) ≡ true) → Raised E f0 g h xs s path p t ts all loose row i from (get_or row i 0)
    raised_step {g} Y inner =
        let n = top.x.0 in
        let o = top.x.1 in
        let es = top.slot in
        let eo : place_of f (get_or row i 0) ≡ o = ap (place_of f) es ∙ place_is in
        let Y' : PrefixWritten f g o piece r = rw eo at Y in
        let long = part_long p from to (omega arith) ends in
        let er = R.slot in
        let ep : path ++ take to p ≡ (path ++ take from p) ++ piece = ap (λ x. path ++ x) (part_on p from to (omega arith)) ∙ sym (append_assoc path (take from p) piece) in
        let W1 = work_write loosed (omega arith) (omega arith) Y'.only (omega arith) (omega arith) in
        let W2 = work_path R.lay ep W1 in
        let at = subst (λ x. PrefixAt g o piece x) (sym er) Y'.at in
        let rest : piece ++ drop to p ≡ drop from p = part_rest p from to (omega arith) in
        record {
          left = top.rs;
          lay = prefix n o piece R.lay;
          named = top.named;
          many = top.many;
          work = make_prefix (path ++ take from p) ts (row_items top.rs loose) n o piece R.lay W2 at (R.hangs piece (λ l. long ∙ full l));
          slot = sym es;
          slot_in = λ z. (seat.0, seat.3);
          hangs = λ q l. l (omega arith);
          art_is = ap (atop piece) R.art_is ∙ atop_as piece (drop to p) (art t) inner ∙ sym (as_some (piece ++ drop to p) (art t) (omega (arith, length-append piece (drop to p)))) ∙ ap (λ x. as_prefix x (art t)) rest;
          run = ap (λ (l : List (ℕ × ℕ)). unwound l (bodies_of R.lay)) (sym top.is) ∙ R.run;
          string = ap (λ x. piece ++ x) R.string ∙ sym (append_assoc piece (drop to p) (bytes_of t)) ∙ ap (λ x. x ++ bytes_of t) rest;
          tip = R.tip;
          sums = λ w. omega (arith, R.sums w, prefix_sum w n o piece R.lay, ap (λ l. sum w (row_items l [])) top.is, row_sum w top.x top.rs);
          within = λ w. omega (arith, R.within w, ap (λ l. sum w (row_items l [])) top.is, row_sum w top.x top.rs);
          stands = λ w. omega (arith, R.stands w, prefix_marks w (path ++ take from p) n o piece R.lay, ap (λ x. count w (marks x R.lay)) ep);
          look = λ k d more e.
              let e2 = e ∙ ap (λ x. x ++ more) (sym rest) in
              through E k piece (drop to p ++ more) d n o R.lay (e2 ∙ append_assoc piece (drop to p) more)
              ∙ R.look k (d + length piece) more (further (E.walked k) piece (drop to p) more d e2)
              ∙ ap (λ m. find_lay E t m k) (omega (arith, ap length rest, length-append piece (drop to p)));
          changed = changed_then (λ a. sum (cover a) (row_items all [])) R.changed
              (changed_only (λ a. sum (cover a) (row_items all [])) Y'.only
              (λ a l u. omega (arith, cover_body a n prefix_kind o (omega arith) (omega arith), R.within (cover a), ap (λ l. sum (cover a) (row_items l [])) top.is, row_sum (cover a) top.x top.rs)))
              (λ a z. (z, z));
        }

-- only a Leaf is one
pub leafy_not : (s k o : ℕ) → 2 ≤ k → leafy (body s k o) ≡ 0
unfolding leafy
leafy_not s k o l = in_over 1 1 k (omega arith)

-- ---- the end

none_left : (left : List (ℕ × ℕ)) → length left ≡ 0 → left ≡ []
none_left [] e = refl
none_left (x ∷ l) e = absurd (omega arith)

module _ {E : Edition} {f g : List ℕ} {h : View} {xs : List Step} {s : ℕ} {path p : List ℕ} {t : Lay} {ts : List (List ℕ × Lay)} {all : List (ℕ × ℕ)} {loose : List Item} {row : List ℕ} {r : ℕ} (R : Raised E f g h xs s path p t ts all loose row 0 0 r) where
  pub raised_work : Work E g h xs s ((path, R.lay) ∷ ts) loose
  raised_work = let e = none_left R.left R.many in work_path R.lay (append-nil path) (subst (λ l. Work E g h xs s ((path ++ [], R.lay) ∷ ts) (row_items l loose)) e R.work)

  pub raised_sum : (w : Item → ℕ) → sum w (items R.lay) ≡ sum w (row_items all []) + sum w (items t)
  raised_sum w = omega (arith, R.sums w, ap (λ l. sum w (row_items l [])) (none_left R.left R.many), sum_none w)

  pub raised_marks : (w : Mark → ℕ) → count w (marks (path ++ p) t) ≤ count w (marks path R.lay)
  raised_marks w = omega (arith, R.stands w, ap (λ x. count w (marks x R.lay)) (append-nil path))

  pub raised_since : {f0 : List ℕ} {h0 : View} {bs ws gs es : List Item} → Since f0 h0 f h bs ws gs es → ((a : ℕ) → sum (cover a) (row_items all []) ≤ sum (cover a) bs + sum (cover a) ws) → Since f0 h0 g h bs ws gs es
  raised_since {bs = bs} {ws = ws} {gs = gs} {es = es} Z l = record { changed = changed_then (written bs ws gs es) Z.changed R.changed (λ a z. (z, omega (arith, l a))); stepped = Z.stepped }

-- of Prefixes none is a Leaf, and all are bodies, before others
pub row_leafy : (rs : List (ℕ × ℕ)) → sum leafy (row_items rs []) ≡ 0
row_leafy [] = sum_none leafy
row_leafy (x ∷ rs) = omega (arith, row_sum leafy x rs, row_leafy rs, leafy_not x.0 prefix_kind x.1 (omega arith))

pub row_bodies : (rs : List (ℕ × ℕ)) (loose : List Item) → Bodies loose → Bodies (row_items rs loose)
row_bodies [] loose B = B
row_bodies (x ∷ rs) loose B = row_bodies rs loose B

-- ---- the loop

pub row_start : (f row p : List ℕ) (c i to : ℕ) → i ≡ chain (length p) → to ≡ length p → RowWritten f f row p c i to c
row_start f row p c i to ei et E h xs s path t ts all loose R = rw (ei, et) (raised_start R)

module _ {f0 f row p : List ℕ} {c j to r : ℕ} (Z : RowWritten f0 f row p c j to r) (more : 1 ≤ j) where
  pub row_seat : Writes f0 row p c → (1 ≤ get_or row (j - 1) 0) × (entry_at (get_or row (j - 1) 0) + 4 ≤ length f) × (place_of f (get_or row (j - 1) 0) + 128 ≤ length f) × (get_or row (j - 1) 0 < 65536)
  row_seat W = seat (Z W.edition W.view W.steps W.top W.path W.tree W.trees W.all W.loose W.ready) (j - 1) (omega arith)

  module _ (below : j * 112 < to + 112) (above : to ≤ j * 112) (ends : to ≤ length p) where
    pub row_fits : {o : ℕ} → Writes f0 row p c → o ≡ place_of f (get_or row (j - 1) 0) → r < 4294967296
        → (let u = take (to - (j - 1) * 112) (drop ((j - 1) * 112) p) in (o + 128 ≤ length f) × (1 ≤ length u) × (length u ≤ 112) × (r < 4294967296))
    row_fits W eo low =
        let n = part_long p ((j - 1) * 112) to (omega arith) ends in
        (omega (arith, (row_seat W).2), omega arith, omega arith, low)

    pub row_step : {g : List ℕ} → (to < length p → to ≡ j * 112) → {o : ℕ} → o ≡ place_of f (get_or row (j - 1) 0) → PrefixWritten f g o (take (to - (j - 1) * 112) (drop ((j - 1) * 112) p)) r
        → RowWritten f0 g row p c (j - 1) ((j - 1) * 112) (get_or row (j - 1) 0)
    row_step {g} full {o} eo Y E h xs s path t ts all loose R =
        let Y' : PrefixWritten f g (place_of f (get_or row (j - 1) 0)) (take (to - (j - 1) * 112) (drop ((j - 1) * 112) p)) r = rw eo at Y in
        raised_step (Z E h xs s path t ts all loose R) (j - 1) (omega arith) ((j - 1) * 112) (omega arith) ends (λ l. omega (arith, full l)) Y' (node_inner t R.node)

pub row_end : {f0 f row p : List ℕ} {c i to r : ℕ} → RowWritten f0 f row p c i to r → i ≡ 0 → to ≡ 0 → RowWritten f0 f row p c 0 0 r
row_end {f0} {f} {row} {p} {c} {i} {to} {r} Z ei et = subst (λ y. RowWritten f0 f row p c 0 y r) et (subst (λ y. RowWritten f0 f row p c y to r) ei Z)
