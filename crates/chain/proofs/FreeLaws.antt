-- The bodies of a row are freed, the last one first. Assumes nothing.
use Prim.Native.Nat.{ℕ, ◌+◌, ◌-◌, ◌≤◌}
use mathlib.Core.Path.{◌≡◌, refl, sym, ap, subst, ◌∙◌}
use mathlib.Core.List.{List, [], ◌∷◌, ◌++◌}
use native.Mathlib.Omega.{arith}
use lib.ListN.{length, get_or}
use Rattle.layout.specs.Kind.{prefix_kind}
use Rattle.layout.specs.Entry.{place_of}
use Rattle.model.specs.Edition.{Edition}
use Rattle.model.specs.Item.{Item, body, Same}
use Rattle.model.specs.Frame.{Lay, View, Heap}
use Rattle.room.specs.View.{released}
use Rattle.room.specs.Step as step
use Rattle.room.specs.Step.{Freed}
use Rattle.between.specs.Hole.{Step, steps_items}
use Rattle.between.specs.Work.{forest_items, Work}
use Rattle.between.proofs.WorkLaws.{entries_first, first_owns, work_free}
use Rattle.between.proofs.SinceLaws.{since_free}
use Rattle.between.proofs.BookedLaws.{booked_free}
use Rattle.chain.specs.Row.{row_items, Named, unwound, Shrunk, RowFreed, Frees}
use Rattle.chain.proofs.RowLaws.{Top, top_of}
use Rattle.chain.proofs.TakeLaws.{prefix_kind_lem}

shrunk_start : {E : Edition} {f : List ℕ} {h : View} {xs : List Step} {s : ℕ} {ts : List (List ℕ × Lay)} {rs : List (ℕ × ℕ)} {loose : List Item} {row : List ℕ}
    → Work E f h xs s ts (row_items rs loose) → Named row rs → Shrunk E f f h xs s ts rs loose row (length rs)
shrunk_start {h = h} {rs = rs} W N =
    record { view = h; left = rs; gone = []; whole = refl; many = refl; named = N; work = W; booked = λ h0 ks fs x d r B. B; since = λ f0 h0 bs ws gs es Z. Z }

module _ {E : Edition} {f0 f : List ℕ} {h : View} {xs : List Step} {s : ℕ} {ts : List (List ℕ × Lay)} {rs : List (ℕ × ℕ)} {loose : List Item} {row : List ℕ} {j : ℕ} (R : Shrunk E f0 f h xs s ts rs loose row j) (i : ℕ) (ej : j ≡ i + 1) where
  top : Top R.left row i
  top = top_of R.left row i R.named (R.many ∙ ej)

  loosed : Work E f R.view xs s ts (body top.x.0 prefix_kind top.x.1 ∷ row_items top.rs loose)
  loosed = let e = top.is in subst (λ l. Work E f R.view xs s ts (row_items l loose)) e R.work

  abbrev rest : List Item
  rest = row_items top.rs loose ++ (steps_items xs ++ forest_items ts)

  placed : place_of f top.x.0 ≡ top.x.1
  placed = (entries_first f top.x.0 prefix_kind top.x.1 (row_items top.rs loose) loosed.entries).0.place_is

  pub shrunk_frees : step.Frees f (get_or row i 0) prefix_kind
  shrunk_frees =
      subst (λ n. step.Frees f n prefix_kind) (sym top.slot)
      (record { view = R.view; heap = R.work.heap; kind = prefix_kind_lem; place = top.x.1; rest = rest; owns = first_owns loosed; place_is = placed })

  pub shrunk_step : {g : List ℕ} → ((h : View) (o : ℕ) (rest : List Item) → Heap f h → Same h.owned (body (get_or row i 0) prefix_kind o ∷ rest) → place_of f (get_or row i 0) ≡ o → Freed f g h (get_or row i 0) prefix_kind o rest)
      → Shrunk E f0 g h xs s ts rs loose row i
  shrunk_step {g} free =
      let n = top.x.0 in
      let o = top.x.1 in
      let free' : (h : View) (o : ℕ) (rest : List Item) → Heap f h → Same h.owned (body n prefix_kind o ∷ rest) → place_of f n ≡ o → Freed f g h n prefix_kind o rest = subst
      (λ m. (h : View) (o : ℕ) (rest : List Item) → Heap f h → Same h.owned (body m prefix_kind o ∷ rest) → place_of f m ≡ o → Freed f g h m prefix_kind o rest) top.slot free in
      let F = free' R.view o rest R.work.heap (first_owns loosed) placed in
      record {
        view = released R.view n prefix_kind o rest;
        left = top.rs;
        gone = top.x ∷ R.gone;
        whole = ap (unwound R.gone) (sym top.is) ∙ R.whole;
        many = top.many;
        named = top.named;
        work = work_free loosed F;
        booked = λ h0 ks fs x d r B. booked_free (R.booked h0 ks fs x d r B) n prefix_kind o rest prefix_kind_lem;
        since = λ a b bs ws gs es Z. since_free prefix_kind_lem R.work.heap (first_owns loosed) (R.since a b bs ws gs es Z) F;
      }

pub freed_start : (f row : List ℕ) (have : ℕ) → RowFreed f f row have have
freed_start f row have E h xs s ts rs loose W N e = subst (λ n. Shrunk E f f h xs s ts rs loose row n) e (shrunk_start W N)

module _ {f0 f row : List ℕ} {have j : ℕ} (Z : RowFreed f0 f row have j) (more : 1 ≤ j) where
  pub freed_frees : Frees f0 row have → step.Frees f (get_or row (j - 1) 0) prefix_kind
  freed_frees W = shrunk_frees (Z W.edition W.view W.steps W.top W.trees W.held W.loose W.work W.named W.many) (j - 1) (omega arith)

  pub freed_step : {g : List ℕ} → ((h : View) (o : ℕ) (rest : List Item) → Heap f h → Same h.owned (body (get_or row (j - 1) 0) prefix_kind o ∷ rest) → place_of f (get_or row (j - 1) 0) ≡ o → Freed f g h (get_or row (j - 1) 0) prefix_kind o rest)
      → RowFreed f0 g row have (j - 1)
  freed_step free E h xs s ts rs loose W N e = shrunk_step (Z E h xs s ts rs loose W N e) (j - 1) (omega arith) free

pub freed_end : {f0 f row : List ℕ} {have i keep : ℕ} → RowFreed f0 f row have i → i ≡ keep → RowFreed f0 f row have keep
freed_end {f0} {f} {row} {have} Z e = subst (λ n. RowFreed f0 f row have n) e Z
